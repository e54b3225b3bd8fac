use Rattle.std.proofs.Common.{arith}
use Rattle.match_firsts.specs.laws.Firsts.{firm-either}
use Rattle.match_firsts.proofs.firm.Goals as goal

pub returns-in-4 : goal.returns-in-4
returns-in-4 c = λ e. firm-either c.args.t.now c.args.x c.op.result c.if-x-ne0.true c.op.ensures.0 (omega arith) (omega arith)
