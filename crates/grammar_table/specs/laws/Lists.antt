-- A list by its places: `up_to f n` has f i at i. Assumes nothing.
use Prim.Native.Nat.{ℕ, zero, suc, ◌+◌, ◌≤◌, ◌<◌}
use Rattle.std.specs.Prelude.{◌≡◌, ◌⊎◌, length}
use Rattle.std.proofs.Math.Path.{refl, sym, ap}
use Rattle.std.proofs.Common.{◌∙◌, subst, inl, inr, arith, eq-or-lt_of_le, ext_get_or}
use mathlib.Core.List.{List, [], ◌∷◌, ◌++◌}
use Rattle.std.proofs.Math.Logic.{⊎_elim}
use Rattle.std.proofs.Math.ListN.{get_or, length-append, get_or-append}
use Rattle.std.proofs.Math.Seq.{get_or-append_seam}
use Rattle.grammar_table.specs.Table.{up_to}

module _ {A : Type 0} (f : ℕ → A) where
  pub up-length : (n : ℕ) → length (up_to f n) ≡ n
  unfolding up_to
  up-length zero = refl
  up-length (suc n) = length-append (up_to f n) (f n ∷ []) ∙ omega (arith, up-length n)

  pub up_at : (d : A) (n i : ℕ) → i < n → get_or (up_to f n) i d ≡ f i
  unfolding up_to
  up_at d zero i l = absurd (omega arith)
  up_at d (suc n) i l =
      ⊎_elim
      (λ (e : i ≡ n). ap (λ (k : ℕ). get_or (up_to f n ++ (f n ∷ [])) k d) (e ∙ sym (up-length n)) ∙ get_or-append_seam (up_to f n) (f n) [] d ∙ ap f (sym e))
      (λ (p : i < n). get_or-append (up_to f n) (f n ∷ []) d i (omega (arith, up-length n)) ∙ up_at d n i p)
      (eq-or-lt_of_le (omega (arith, l)))

-- a list is told by its length and its places
pub is_up : {A : Type 0} (f : ℕ → A) (d : A) (n : ℕ) (l : List A) → length l ≡ n → ((i : ℕ) → i < n → get_or l i d ≡ f i) → l ≡ up_to f n
is_up f d n l e h = ext_get_or d l (up_to f n) (e ∙ sym (up-length f n)) (λ i p. h i (omega (arith, e)) ∙ sym (up_at f d n i (omega (arith, e))))
