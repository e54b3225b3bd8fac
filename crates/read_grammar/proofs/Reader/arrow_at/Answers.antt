use Rattle.std.proofs.Common.{◌∙◌}
use Rattle.read_grammar.specs.laws.Places.{arrow-there}
use Rattle.read_grammar.proofs.Reader.arrow_at.Goals as goal

pub returns : goal.returns
returns c = c.arrow_at.ensures ∙ arrow-there _ _ _
