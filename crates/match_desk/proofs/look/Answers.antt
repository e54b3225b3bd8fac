use native.Mathlib.Omega.{arith}
use Rattle.match_desk.specs.laws.Parts.{made_of}
use Rattle.match_desk.proofs.look.Goals as goal

pub returns : goal.returns
returns c = made_of c.args.t.now c.args.x
    c.op.result c.left-left.result c.right-right.result c.part.result c.part-2.result
    (omega (arith, c.requires)) c.op.ensures.0 c.left-left.ensures.0
    c.right-right.ensures.0 c.left-left.ensures.1 c.part.ensures c.part-2.ensures
