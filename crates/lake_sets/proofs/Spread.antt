-- Kinds of expressions that are told apart by a range. Assumes nothing.
use Rattle.std.specs.Prelude.{ℕ, zero, suc, ◌≤◌, ◌<◌}
use Rattle.std.proofs.Common.{arith}

pub of_three : (P : ℕ → Type 0) (k : ℕ) → 4 ≤ k → k < 7 → P 4 → P 5 → P 6 → P k
of_three P (suc (suc (suc (suc zero)))) a b x y z = x
of_three P (suc (suc (suc (suc (suc zero))))) a b x y z = y
of_three P (suc (suc (suc (suc (suc (suc zero)))))) a b x y z = z
of_three P (suc (suc (suc (suc (suc (suc (suc k))))))) a b x y z = absurd (omega arith)
of_three P zero a b x y z = absurd (omega arith)
of_three P (suc zero) a b x y z = absurd (omega arith)
of_three P (suc (suc zero)) a b x y z = absurd (omega arith)
of_three P (suc (suc (suc zero))) a b x y z = absurd (omega arith)

pub of_two : (P : ℕ → Type 0) (k : ℕ) → 5 ≤ k → k < 7 → P 5 → P 6 → P k
of_two P k a b y z = of_three (λ i. 5 ≤ i → P i) k (omega arith) b (λ l. absurd (omega (arith, l))) (λ l. y) (λ l. z) a
