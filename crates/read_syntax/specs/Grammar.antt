-- Which grammar a text is: exactly the grammar whose concrete syntax has the text's tokens (01, Notation). Names no reader and no fuel;
-- that a text is one grammar at most is proved in laws/. Assumes nothing: these are definitions.
use Rattle.std.specs.Prelude.{◌≡◌, List, ℕ}
use Rattle.read_tokens.specs.declared.Mode.{Mode}
use Rattle.read_tokens.specs.Tokens.{toks}
use Rattle.grammar.specs.Syntax.{Rules, tokens}
use Rattle.grammar.specs.Exp.{Rule}
use Rattle.grammar.specs.Trees.{trees}

abbrev pub GrammarOf : Mode → List ℕ → List Rule → Type 0
GrammarOf m s g = (r : Rules) × (tokens r ≡ toks m s) × (trees r ≡ g)
