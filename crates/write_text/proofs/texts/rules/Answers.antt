use Rattle.std.proofs.Common.{ap, sym}
use Rattle.write_leaves.specs.steps.Pen.{after}
use Rattle.write_leaves.specs.steps.Printed.{called}
use Rattle.write_leaves.specs.laws.Pen.{less, done}
use Rattle.write_text.specs.laws.Pages.{rest-start, rest_more, rest_end}
use Rattle.write_text.proofs.texts.rules.Goals as goal

pub loop-r-init : goal.loop-r-init
loop-r-init c = ap (after c.args.pen.now) (sym (rest-start c.args.plain c.args.t.now c.symbols-r-end.result c.symbols-r-end.ensures.0))

pub loop-r-preserved : goal.loop-r-preserved
loop-r-preserved c = less _ _ _ c.loop-r.invariant
    (rest_more (called c.args.plain c.args.t.now) c.args.t.now c.symbols-r-end.result c.loop-r.r c.loop-r-test.true) c.rule_of.ensures

pub returns : goal.returns
returns c = done _ _ c.loop-r.invariant (rest_end (called c.args.plain c.args.t.now) c.args.t.now c.symbols-r-end.result c.loop-r.r c.loop-r-test.false)
