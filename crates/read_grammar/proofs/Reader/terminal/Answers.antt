use Rattle.std.proofs.Common.{sym, ◌∙◌}
use Rattle.read_grammar.specs.laws.Found.{matches, matches-full}
use Rattle.read_grammar.proofs.Reader.terminal.Goals as goal

pub returns-then-terminals-eq-TOO_MANY : goal.returns-then-terminals-eq-TOO_MANY
returns-then-terminals-eq-TOO_MANY c = matches-full (sym c.terminals.ensures.0 ∙ c.if-terminals-eq-TOO_MANY.true) c.add_part.ensures

pub returns-else-terminals-eq-TOO_MANY : goal.returns-else-terminals-eq-TOO_MANY
returns-else-terminals-eq-TOO_MANY c = matches c.note_leaf-n.ensures c.add_part-else-terminals-eq-TOO_MANY.ensures
