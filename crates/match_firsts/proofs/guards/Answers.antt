use Rattle.std.proofs.Common.{leb-true}
use Rattle.match_firsts.specs.laws.Firsts.{guards-node}
use Rattle.match_firsts.proofs.guards.Goals as goal

pub returns-then-x-ne0 : goal.returns-then-x-ne0
returns-then-x-ne0 c = λ e. guards-node c.args.t.now c.args.x c.op.result c.if-x-ne0.true c.op.ensures.0 (leb-true 7 c.op.result e)
