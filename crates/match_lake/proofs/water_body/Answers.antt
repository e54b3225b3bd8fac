use native.Mathlib.Omega.{arith}
use Rattle.match_lake.specs.laws.Asks.{water-rule, water-gone}
use Rattle.match_lake.proofs.water_body.Goals as goal

pub returns-in-Some : goal.returns-in-Some
returns-in-Some c =
    let u = c.in-Some.ensures in
    (water-rule c.args.t.now c.args.n _ c.requires.0 u.1 c.body.result u.0 c.body.ensures.0, c.body.ensures.1)

pub returns-in-None : goal.returns-in-None
returns-in-None c = (water-gone c.args.t.now c.args.n _ c.requires.0 c.in-None.ensures (omega arith), omega arith)
