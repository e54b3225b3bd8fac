use Rattle.std.proofs.Common.{refl}
use Rattle.write_leaves.specs.steps.Printed.{called}
use Rattle.write_leaves.specs.steps.Pen.{after}
use Rattle.write_leaves.specs.laws.Pen.{said}
use Rattle.write_text.specs.laws.Pages.{none-text, some-text}
use Rattle.write_text.proofs.texts.rule_of.Goals as goal

pub returns-then-x-ne0 : goal.returns-then-x-ne0
returns-then-x-ne0 c = said _ (some-text (called c.args.plain c.args.t.now) c.args.t.now c.args.r c.body-x.result c.body-x.ensures.0 c.if-x-ne0.true) c.rule.ensures

pub returns-else-x-ne0 : goal.returns-else-x-ne0
unfolding after
returns-else-x-ne0 c = said _ (none-text (called c.args.plain c.args.t.now) c.args.t.now c.args.r c.body-x.result c.body-x.ensures.0 c.if-x-ne0.false) refl
