use native.Mathlib.Omega.{arith}
use native.Mathlib.Nat.{one-mul}
use mathlib.Core.Path.{ap, ◌∙◌}
use Prim.Native.Nat.{◌^◌}
use lib.Bits.{bit_or}
use lib.Dec.{lit<}
use lib.Pow.{shl_exact}
use Rattle.match_cells.proofs.filling.with.Goals as goal

pub returns : goal.returns
returns c = ap (bit_or c.args.w) (shl_exact 1 c.args.k 64 (lit< tt) (omega (arith, c.requires)) ∙ one-mul (2 ^ c.args.k))
