use Rattle.std.proofs.Common.{sym, ◌∙◌}
use Rattle.read_grammar.specs.laws.Found.{occurs, occurs-full}
use Rattle.read_grammar.proofs.occurrence.Goals as goal

pub returns-then-expressions-ne-TOO_MANY_EXPRESSIONS : goal.returns-then-expressions-ne-TOO_MANY_EXPRESSIONS
returns-then-expressions-ne-TOO_MANY_EXPRESSIONS c = occurs c.symbol_number-n.ensures.0 c.add_part.ensures

pub returns-else-expressions-ne-TOO_MANY_EXPRESSIONS : goal.returns-else-expressions-ne-TOO_MANY_EXPRESSIONS
returns-else-expressions-ne-TOO_MANY_EXPRESSIONS c = occurs-full (sym c.expressions.ensures.0 ∙ c.if-expressions-ne-TOO_MANY_EXPRESSIONS.false)
