use mathlib.Core.Path.{◌∙◌}
use Rattle.read_walks.specs.laws.Names.{left_is}
use Rattle.read_walks.proofs.is_left.Goals as goal

pub returns : goal.returns
returns c = c.arrow_at.ensures ∙ left_is c.args.mode c.args.text.now c.args.at
