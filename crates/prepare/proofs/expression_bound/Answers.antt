use mathlib.Core.Path.{sym, ap}
use Rattle.read_tokens.specs.Bounds.{expression_bound}
use Rattle.prepare.proofs.expression_bound.Goals as goal

pub returns-in-Lake : goal.returns-in-Lake
unfolding expression_bound
returns-in-Lake c = sym (ap expression_bound c.in-Lake.is)

pub returns-in-Plain : goal.returns-in-Plain
unfolding expression_bound
returns-in-Plain c = sym (ap expression_bound c.in-Plain.is)
