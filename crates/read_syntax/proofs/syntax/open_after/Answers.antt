use mathlib.Core.Path.{ap, ◌∙◌}
use Rattle.read_syntax.specs.steps.Numbers.{kind_class}
use Rattle.read_syntax.proofs.laws.Automaton.{moved-arrow, moved_open, moved-close, moved_rest}
use Rattle.read_syntax.proofs.syntax.open_after.Goals as goal

pub returns-in-Arrow : goal.returns-in-Arrow
returns-in-Arrow c = moved-arrow _ _ (ap kind_class c.in-Arrow.is)

pub returns-in-Opens : goal.returns-in-Opens
returns-in-Opens c = moved_open _ _ (ap kind_class c.in-Opens.is)

pub returns-in-Closes : goal.returns-in-Closes
returns-in-Closes c = c.saturating_sub.ensures ∙ moved-close _ _ (ap kind_class c.in-Closes.is)

pub returns-in_default : goal.returns-in_default
returns-in_default c = moved_rest _ _ c.in_default.not-Arrow c.in_default.not-Opens c.in_default.not-Closes
