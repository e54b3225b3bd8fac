-- The words of a terminal's record, and which terminal they are. Assumes nothing.
use Prim.Native.Nat.{ℕ, zero, suc, ◌+◌, ◌-◌, ◌*◌, ◌≤◌, ◌<◌}
use Rattle.std.specs.Prelude.{◌≡◌, Bool, true, false, not, List, [], ◌∷◌, eqb, length, get_or}
use Rattle.std.proofs.Math.Path.{refl, sym, ap}
use Rattle.std.proofs.Common.{◌∙◌, arith, add-one}
use Rattle.read_tokens.specs.Token.{Leaf, any, literal, class}
use Rattle.grammar_table.specs.Table.{content_at, terminal_word, words_from, marks_from, leaf_by, leaf_in}

-- one word more
pub words_more : (t : List ℕ) (i k : ℕ) → 0 < k → words_from t i k ≡ get_or t i 0 ∷ words_from t (i + 1) (k - 1)
unfolding words_from
words_more t i zero h = absurd (omega arith)
words_more t i (suc k) h = let e : suc k - 1 ≡ k = omega arith in rw (add-one i, e)

pub words-length : (t : List ℕ) (i k : ℕ) → length (words_from t i k) ≡ k
unfolding words_from
words-length t i zero = refl
words-length t i (suc k) = ap suc (words-length t (suc i) k)

pub marks-at : (t : List ℕ) (i n b : ℕ) → b < n → get_or (marks_from t i n) b false ≡ not (eqb (get_or t (i + b) 0) 0)
unfolding marks_from
marks-at t i zero b h = absurd (omega arith)
marks-at t i (suc n) zero h = let e : i ≡ i + 0 = omega arith in ap (λ (j : ℕ). not (eqb (get_or t j 0) 0)) e
marks-at t i (suc n) (suc b) h = let e : suc i + b ≡ i + suc b = omega arith in marks-at t (suc i) n b (omega arith) ∙ ap (λ (j : ℕ). not (eqb (get_or t j 0) 0)) e

-- ── which terminal ──
module _ (t : List ℕ) (x k : ℕ) (e : k ≡ terminal_word t x 0) where
  by_kind : leaf_by k t x ≡ leaf_in t x
  unfolding leaf_in
  by_kind = ap (λ (j : ℕ). leaf_by j t x) e

  pub is_any : k ≡ 0 → any ≡ leaf_in t x
  unfolding leaf_by
  is_any z = sym (ap (λ (j : ℕ). leaf_by j t x) z) ∙ by_kind

  pub is-literal : (n : ℕ) → n ≡ terminal_word t x 1 → k ≡ 1 → literal (words_from t (content_at x) n) ≡ leaf_in t x
  unfolding leaf_by
  is-literal n g z = ap (λ (j : ℕ). literal (words_from t (content_at x) j)) g ∙ sym (ap (λ (j : ℕ). leaf_by j t x) z) ∙ by_kind

  pub is-class : (k ≡ 0 → ⊥) → (k ≡ 1 → ⊥) → class (marks_from t (content_at x) 256) ≡ leaf_in t x
  unfolding leaf_by
  is-class f g = class-by k f g ∙ by_kind
    where
      class-by : (j : ℕ) → (j ≡ 0 → ⊥) → (j ≡ 1 → ⊥) → class (marks_from t (content_at x) 256) ≡ leaf_by j t x
      class-by zero f g = absurd (f refl)
      class-by (suc zero) f g = absurd (g refl)
      class-by (suc (suc j)) f g = refl
