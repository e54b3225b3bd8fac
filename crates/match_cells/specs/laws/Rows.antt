-- The filling of cells, step by step as code does it. Assumes nothing.
use Prim.Native.Nat.{ℕ, zero, suc, ◌+◌, ◌-◌, ◌*◌, ◌≤◌, ◌<◌}
use Rattle.std.specs.Prelude.{◌≡◌}
use Rattle.std.proofs.Math.Path.{refl, sym, ap}
use Rattle.std.proofs.Common.{◌∙◌}
use mathlib.Core.List.{List, ◌∷◌}
use native.Mathlib.Omega.{arith}
use Rattle.std.proofs.Math.ListN.{length, get_or, set}
use Rattle.grammar.specs.Exp.{Exp}
use Rattle.grammar_table.specs.Table.{symbol_word, symbol_count, words_from}
use Rattle.grammar_table.specs.laws.Lists.{up-length, up_at}
use Rattle.match_eval.specs.Eval.{nowhere, body_of, ev}
use Rattle.match_cells.specs.Cells.{body_takes, row_of, fill_of}
use Rattle.grammar_table.specs.Trees.{tree_of, bodies_of}
use Rattle.grammar_table.specs.laws.Leaves.{words_more}

module _ (t : List ℕ) where
  pub bodies-length : length (bodies_of t) ≡ symbol_count t
  unfolding bodies_of
  bodies-length = up-length (λ (r : ℕ). tree_of t (symbol_word t r 1)) (symbol_count t)

  pub body_at : (r : ℕ) → r < symbol_count t → body_of (bodies_of t) r ≡ tree_of t (symbol_word t r 1)
  unfolding bodies_of
  body_at r h = up_at (λ (j : ℕ). tree_of t (symbol_word t j 1)) nowhere (symbol_count t) r h

  module _ (s : List ℕ) (n : ℕ) (e : n ≡ symbol_count t) where
    -- one cell
    pub stored : (cs : List ℕ) (r p b v : ℕ) → r < n → b ≡ symbol_word t r 1 → v ≡ ev s cs n (tree_of t b) p
        → set cs (p * n + r) v ≡ set cs (p * length (bodies_of t) + r) (body_takes (bodies_of t) s cs r p)
    unfolding body_takes
    stored cs r p b v l q u =
        let z : n ≡ length (bodies_of t) = e ∙ sym bodies-length in
        let w : v ≡ ev s cs (length (bodies_of t)) (body_of (bodies_of t) r) p =
        u ∙ ap (λ (x : ℕ). ev s cs n (tree_of t x) p) q ∙ ap (λ (x : Exp ℕ). ev s cs n x p) (sym (body_at r (omega (arith, l, e)))) ∙ ap (λ (m : ℕ). ev s cs m (body_of (bodies_of t) r) p) z in
        ap (λ (m : ℕ). set cs (p * m + r) v) z ∙ ap (set cs (p * length (bodies_of t) + r)) w

  module _ (s : List ℕ) (p : ℕ) (order : List ℕ) where
    -- one symbol of a row
    pub row_more : (j n : ℕ) (cs new : List ℕ) → j < n → new ≡ set cs (p * length (bodies_of t) + get_or order j 0) (body_takes (bodies_of t) s cs (get_or order j 0) p)
        → row_of (bodies_of t) s p (words_from order (j + 1) (n - (j + 1))) new ≡ row_of (bodies_of t) s p (words_from order j (n - j)) cs
    unfolding row_of
    row_more j n cs new l q =
        let z : n - j - 1 ≡ n - (j + 1) = omega arith in
        ap (row_of (bodies_of t) s p (words_from order (j + 1) (n - (j + 1)))) q
        ∙ sym (ap (λ (w : List ℕ). row_of (bodies_of t) s p w cs) (words_more order j (n - j) (omega arith) ∙ ap (λ (k : ℕ). get_or order j 0 ∷ words_from order (j + 1) k) z))

    pub row-end : (j n : ℕ) (cs : List ℕ) → n ≤ j → cs ≡ row_of (bodies_of t) s p (words_from order j (n - j)) cs
    unfolding row_of words_from
    row-end j n cs l = let z : n - j ≡ 0 = omega arith in sym (ap (λ (k : ℕ). row_of (bodies_of t) s p (words_from order j k) cs) z)

    pub row-start : (n : ℕ) (cs : List ℕ) → row_of (bodies_of t) s p (words_from order 0 (n - 0)) cs ≡ row_of (bodies_of t) s p (words_from order 0 n) cs
    row-start n cs = let z : n - 0 ≡ n = omega arith in ap (λ (k : ℕ). row_of (bodies_of t) s p (words_from order 0 k) cs) z

  -- one place
  pub fill_more : (s order cs new : List ℕ) (k : ℕ) → 0 < k → new ≡ row_of (bodies_of t) s (k - 1) order cs → fill_of (bodies_of t) s (k - 1) order new ≡ fill_of (bodies_of t) s k order cs
  unfolding fill_of
  fill_more s order cs new zero l q = absurd (omega arith)
  fill_more s order cs new (suc k) l q = let z : suc k - 1 ≡ k = omega arith in ap (λ (j : ℕ). fill_of (bodies_of t) s j order new) z ∙ ap (fill_of (bodies_of t) s k order) (q ∙ ap (λ (j : ℕ). row_of
      (bodies_of t) s j order cs) z)

  pub fill_end : (s order cs : List ℕ) (k : ℕ) → k ≤ 0 → cs ≡ fill_of (bodies_of t) s k order cs
  unfolding fill_of
  fill_end s order cs zero l = refl
  fill_end s order cs (suc k) l = absurd (omega arith)
