use Rattle.std.proofs.Common.{arith}
use Rattle.match_eval.proofs.laws.EvalSteps.{any-takes, any-fails}
use Rattle.match_eval.proofs.any_at.Goals as goal

pub returns-then-p-s : goal.returns-then-p-s
returns-then-p-s c = any-takes c.args.s.now c.args.p c.if-p-s.true

pub returns-else-p-s : goal.returns-else-p-s
returns-else-p-s c = any-fails c.args.s.now c.args.p (omega arith)
