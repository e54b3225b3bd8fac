use mathlib.Core.Path.{◌∙◌}
use Prim.Native.Nat.{◌-◌, ◌^◌, ◌<◌}
use native.Mathlib.Nat.{one-mul}
use lib.Pow.{shl_exact}
use native.Mathlib.Omega.{arith}
use lib.Dec.{lit<}
use Rattle.lake_sets.proofs.bit.Goals as goal

pub returns-then-k-lt64 : goal.returns-then-k-lt64
returns-then-k-lt64 c = λ h. shl_exact 1 c.args.k 64 (lit< tt) (omega arith) ∙ one-mul (2 ^ c.args.k)
