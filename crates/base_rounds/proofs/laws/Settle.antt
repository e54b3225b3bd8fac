-- `settle` finds the first round whose next is equal, if it may go that far. Assumes nothing.
use Prim.Native.Nat.{ℕ, zero, suc, ◌+◌, ◌≤◌, ◌<◌}
use Rattle.std.specs.Prelude.{◌≡◌, Bool, ◌⊎◌}
use Rattle.std.proofs.Math.Path.{refl, ap}
use Rattle.std.proofs.Common.{sym, ◌∙◌, subst, true≢false, arith, eq-or-lt_of_le, inl, inr}
use Rattle.std.proofs.Math.Bool.{true, false}
use Rattle.base_rounds.specs.Rounds.{iter, First, Settled, settled, settle}

module _ {S : Type 0} (same : S → S → Bool) (sound : (x y : S) → same x y ≡ true → x ≡ y) (whole : (x : S) → same x x ≡ true) (F : S → S) (b : S) (m : ℕ) (first : First F b m) where
  -- from round k, with f rounds to go
  from : (f k : ℕ) → k ≤ m → m < f + k → settle same F f k (iter F b k) ≡ settled m (iter F b m)
  unfolding settle
  from zero k h l = absurd (omega arith)
  from (suc f) k h l = go (same (F (iter F b k)) (iter F b k)) refl (eq-or-lt_of_le h) (λ p. from f (suc k) p (omega arith))
    where
      go : (t : Bool) → same (F (iter F b k)) (iter F b k) ≡ t → (k ≡ m) ⊎ (k < m) → (suc k ≤ m → settle same F f (suc k) (F (iter F b k)) ≡ settled m (iter F b m))
          → elim t as (λ u. Settled S) [ true ↦ settled k (iter F b k) | false ↦ settle same F f (suc k) (F (iter F b k)) ] ≡ settled m (iter F b m)
      go true e (inl p) r = ap (λ (j : ℕ). settled j (iter F b j)) p
      go true e (inr p) r = absurd (first.before k p (sound (F (iter F b k)) (iter F b k) e))
      go false e (inl p) r =
          absurd (true≢false (sym (whole (iter F b k)) ∙ ap (λ (x : S). same x (iter F b k)) (sym (subst (λ (j : ℕ). F (iter F b j) ≡ iter F b j) (sym p) first.stops)) ∙ e))
      go false e (inr p) r = r p

  -- the count and the state that the definitions compute are those of the first equal round
  pub settle-first : (f : ℕ) → m < f → settle same F f 0 b ≡ settled m (iter F b m)
  settle-first f h = from f 0 (omega arith) (omega arith)
