use mathlib.Core.Path.{◌∙◌}
use Prim.Native.Nat.{◌-◌}
use native.Mathlib.Omega.{arith}
use Rattle.lake_sets.specs.laws.Edges.{gave_one, gave-out}
use Rattle.lake_sets.proofs.gift.Goals as goal

pub returns-then-i-base : goal.returns-then-i-base
returns-then-i-base c = gave_one c.args.base.now c.args.i c.args.s
    c.clean.result (omega arith) c.clean.ensures.1 (c.clean.ensures.0 ∙ c.union.ensures)

pub returns-else-i-base : goal.returns-else-i-base
returns-else-i-base c = gave-out c.args.base.now c.args.i c.args.s c.if-i-base.false
