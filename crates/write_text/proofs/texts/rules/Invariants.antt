use Rattle.std.proofs.Common.{◌≡◌}
use Rattle.write_leaves.specs.steps.Pen.{after}
use Rattle.write_leaves.specs.steps.Printed.{called}
use Rattle.write_text.specs.steps.Texts.{text_of}
use Rattle.write_text.specs.laws.Pages.{rest_of}
use Rattle.write_text.proofs.texts.rules.Given as goal

abbrev pub invariant-loop-r : goal.invariant-loop-r
invariant-loop-r l = after l.pen (rest_of (called l.plain l.t) l.t l.r-end l.r) ≡ after l.initial.pen (text_of l.plain l.t)
