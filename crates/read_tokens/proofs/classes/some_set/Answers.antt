use mathlib.Core.Path.{◌∙◌}
use native.Mathlib.Omega.{arith}
use Rattle.read_tokens.proofs.ClassSteps.{some_here, listed_any}
use Rattle.read_tokens.proofs.classes.some_set.Goals as goal

pub returns-then-marks-from : goal.returns-then-marks-from
returns-then-marks-from c = c.if-marks-from.true ∙ some_here c.args.marks.now c.from.result (omega (arith, c.told-marks, c.from.ensures, c.ranges.hint)) c.if-marks-from.true

pub returns-else-marks-from : goal.returns-else-marks-from
returns-else-marks-from c = c.contains.ensures.value ∙ listed_any c.args.marks.now
