-- Two numbers are compared, and what holds of all below one. Assumes nothing.
use Rattle.std.specs.Prelude.{ℕ, ◌+◌, ◌<◌, ◌≤◌, ◌≡◌, ◌⊎◌}
use Rattle.std.proofs.Common.{sym, subst, inl, inr, arith}
use Rattle.std.proofs.Math.Decide.{dec_lt, ℕ_discrete}

pub lt-or-ge : (m n : ℕ) → (m < n) ⊎ (n ≤ m)
lt-or-ge m n = elim (dec_lt m n) [ yes p ↦ inl p | no q ↦ inr (omega arith) ]

pub same? : (m n : ℕ) → (m ≡ n) ⊎ (m ≡ n → ⊥)
same? m n = elim (ℕ_discrete m n) [ yes p ↦ inl p | no q ↦ inr q ]

-- what holds of all numbers below k and of k, as a loop adds it
pub all-below : (A : ℕ → Type 0) (k : ℕ) → ((j : ℕ) → j < k → A j) → A k → (j : ℕ) → j < k + 1 → A j
all-below A k f a j l = elim (same? j k) [
  | inl e ↦ subst A (sym e) a
  | inr g ↦ f j (omega (arith, l, g))
]
