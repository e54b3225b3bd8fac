use native.Mathlib.Omega.{arith}
use mathlib.Core.Path.{sym, ◌∙◌}
use Rattle.match_lake.specs.laws.Asks.{water-found, water-missing}
use Rattle.match_lake.proofs.water_at.Goals as goal

pub returns-then-is_water : goal.returns-then-is_water
returns-then-is_water c =
    (c.loop-i-test.true, water-found c.args.t.now c.args.n c.loop-i.i c.loop-i-test.true c.loop-i.invariant (sym c.is_water.ensures ∙ c.if-is_water.true))

pub returns : goal.returns
returns c =
    water-missing c.args.t.now c.args.n c.args.n (omega arith) (omega arith) (λ j h. c.loop-i.invariant j (omega (arith, h, c.loop-i-test.false)))
