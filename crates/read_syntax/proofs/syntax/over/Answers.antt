use mathlib.Core.Path.{sym, ap}
use Rattle.read_tokens.specs.Bounds.{literal_bound}
use Rattle.read_tokens.specs.declared.Kind.{Kind}
use Rattle.read_syntax.specs.steps.Numbers.{over_by}
use Rattle.read_syntax.proofs.syntax.over.Goals as goal

pub returns-in-Literal : goal.returns-in-Literal
unfolding literal_bound
returns-in-Literal c = sym (ap (λ (k : Kind). over_by c.args.mode c.args.d k c.args.size) c.in-Literal.is)
