use mathlib.Core.Path.{sym, ap}
use Rattle.read_tokens.specs.Bounds.{open_bound}
use Rattle.read_syntax.proofs.syntax.open_bound.Goals as goal

pub returns-in-Lake : goal.returns-in-Lake
unfolding open_bound
returns-in-Lake c = sym (ap open_bound c.in-Lake.is)

pub returns-in-Plain : goal.returns-in-Plain
unfolding open_bound
returns-in-Plain c = sym (ap open_bound c.in-Plain.is)
