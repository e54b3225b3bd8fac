use mathlib.Core.Path.{refl, ◌∙◌}
use Rattle.read_tokens.proofs.ClassSteps.{turn_one, turn-none}
use Rattle.read_tokens.proofs.classes.turn.Goals as goal

pub loop-mark-init : goal.loop-mark-init
loop-mark-init c = refl

pub loop-mark-preserved : goal.loop-mark-preserved
loop-mark-preserved c = turn_one c.loop-mark.mark-index c.loop-mark.marks c.loop-mark-test.true ∙ c.loop-mark.invariant

pub returns : goal.returns
returns c = turn-none c.loop-mark.mark-index c.loop-mark.marks c.loop-mark-test.false ∙ c.loop-mark.invariant
