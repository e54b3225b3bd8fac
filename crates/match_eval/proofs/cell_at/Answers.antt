use Rattle.std.proofs.Common.{arith}
use Rattle.match_eval.proofs.laws.EvalSteps.{cell-past, cell-over, cell-is}
use Rattle.match_eval.proofs.cell_at.Goals as goal

pub returns-then-n-r : goal.returns-then-n-r
returns-then-n-r c = cell-past c.args.s.now c.args.cells.now c.args.n c.args.r c.args.p c.if-n-r.true

pub returns-then-v-s : goal.returns-then-v-s
returns-then-v-s c =
    cell-is c.args.s.now c.args.cells.now c.args.n c.args.r c.args.p c.word-v.result (omega arith) c.word-v.ensures.0 c.if-v-s.true

pub returns-else-v-s : goal.returns-else-v-s
returns-else-v-s c =
    cell-over c.args.s.now c.args.cells.now c.args.n c.args.r c.args.p c.word-v.result (omega arith) c.word-v.ensures.0 (omega arith)
