use mathlib.Core.Path.{sym, ap}
use Rattle.read_tokens.specs.Bounds.{name_bound}
use Rattle.read_syntax.proofs.syntax.name_bound.Goals as goal

pub returns-in-Lake : goal.returns-in-Lake
unfolding name_bound
returns-in-Lake c = sym (ap name_bound c.in-Lake.is)

pub returns-in-Plain : goal.returns-in-Plain
unfolding name_bound
returns-in-Plain c = sym (ap name_bound c.in-Plain.is)
