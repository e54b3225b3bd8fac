use mathlib.Core.Path.{sym, ◌∙◌}
use borrow.Author.Tests.{ne_eqb}
use Rattle.read_syntax.proofs.laws.Automaton.{closed-is, not-closed}
use Rattle.read_syntax.proofs.syntax.finished.Goals as goal

pub returns-then-d-eq0 : goal.returns-then-d-eq0
returns-then-d-eq0 c = closed-is c.args.c c.args.d c.if-d-eq0.true

pub returns-else-d-eq0 : goal.returns-else-d-eq0
returns-else-d-eq0 c = ne_eqb c.args.d 0 c.if-d-eq0.false ∙ sym (not-closed _ _ c.if-d-eq0.false)
