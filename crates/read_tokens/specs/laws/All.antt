-- A rule for all numbers below a bound, proved by one computed test. Assumes nothing.
use Rattle.std.specs.Prelude.{ℕ, zero, suc, ◌<◌, ◌≡◌, Bool, true, false, ◌&&◌, ◌⊎◌, T}
use Rattle.std.proofs.Common.{subst, sym, inl, inr, eq-or-lt_of_le, le_of_suc-le-suc, arith}

pub both_left : (a b : Bool) → T (a && b) → T a
both_left true b t = tt
both_left false b t = t

pub both_right : (a b : Bool) → T (a && b) → T b
both_right true b t = t
both_right false b t = absurd t

abbrev pub all : ℕ → (ℕ → Bool) → Bool
all zero f = true
all (suc n) f = f n && all n f

pub all-at : (n : ℕ) (f : ℕ → Bool) → T (all n f) → (k : ℕ) → k < n → T (f k)
all-at zero f t k h = absurd (omega arith)
all-at (suc n) f t k h = go (λ i. all-at n f (both_right (f n) (all n f) t) k i) (eq-or-lt_of_le (le_of_suc-le-suc h))
  where
    go : (k < n → T (f k)) → (k ≡ n) ⊎ (k < n) → T (f k)
    go r (inl e) = subst (λ (m : ℕ). T (f m)) (sym e) (both_left (f n) (all n f) t)
    go r (inr i) = r i
