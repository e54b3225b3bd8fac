use mathlib.Core.Path.{sym, ap}
use Rattle.read_tokens.specs.Bounds.{text_bound}
use Rattle.prepare.proofs.refusals.text_bound.Goals as goal

pub returns-in-Lake : goal.returns-in-Lake
unfolding text_bound
returns-in-Lake c = sym (ap text_bound c.in-Lake.is)

pub returns-in-Plain : goal.returns-in-Plain
unfolding text_bound
returns-in-Plain c = sym (ap text_bound c.in-Plain.is)
