-- Something is not nothing. Assumes nothing.
use Rattle.std.specs.Prelude.{ℕ, ◌≡◌}
use Rattle.std.proofs.Math.Option.{none, some}
use Rattle.std.proofs.Common.{arith}

pub some-none : {A : Type 0} (x : A) → some x ≡ none → ⊥
some-none x e = let z : ◌≡◌ {A = ℕ} 0 1 = cc in omega arith
