use native.Mathlib.Omega.{arith}
use Rattle.match_walks.specs.laws.Ups.{five_or_six}
use Rattle.match_lone.specs.laws.Lone.{repeated}
use Rattle.match_lone.proofs.repeats.Goals as goal

pub returns-in-5 : goal.returns-in-5
returns-in-5 c = λ o.
    repeated c.args.t.now c.args.desk.now c.args.x _ _ _ _ _ c.requires.0 c.requires.1 c.word-e.ensures.0 c.if-e-eq0.false c.look.ensures
    (five_or_six _ (omega (arith, c.in-5)) (omega (arith, c.in-5)))
