use Rattle.std.proofs.Common.{below_more, arith}
use Rattle.match_plan.specs.steps.Checked.{Cell}
use Rattle.match_plan.proofs.Sight.row_right.Goals as goal

pub loop-r-preserved : goal.loop-r-preserved
loop-r-preserved c =
    let f = c.args.self.now in
    below_more (Cell f.table.now f.mem.now c.args.b c.args.plan.now c.args.o) c.loop-r.r c.loop-r.invariant (c.cell_right.ensures c.if-not-cell_right.false)

pub returns : goal.returns
returns c = λ _ r l. c.loop-r.invariant r (omega (arith, l))
