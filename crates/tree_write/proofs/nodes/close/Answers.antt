use Rattle.std.proofs.Common.{ap, sym}
use Rattle.write_leaves.specs.steps.Pen.{after}
use Rattle.write_leaves.specs.laws.Pen.{less, done}
use Rattle.tree_write.specs.laws.Nodes.{closings-start, closings-more, closings-end}
use Rattle.tree_write.proofs.nodes.close.Goals as goal

pub loop-init : goal.loop-init
loop-init c = ap (after c.args.pen.now) (sym (closings-start c.args.c))

pub loop-preserved : goal.loop-preserved
loop-preserved c = less _ _ _ c.loop.invariant (closings-more c.args.c c.loop.counter c.loop-test.true) c.emit_all.ensures

pub returns : goal.returns
returns c = done _ _ c.loop.invariant (closings-end c.args.c c.loop.counter c.loop-test.false)
