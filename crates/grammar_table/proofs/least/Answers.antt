use Rattle.std.proofs.Common.{◌∙◌}
use Rattle.grammar_table.specs.laws.Caps.{cap-min}
use Rattle.grammar_table.proofs.least.Goals as goal

pub returns : goal.returns
returns c = c.min.ensures ∙ cap-min c.args.a c.args.b
