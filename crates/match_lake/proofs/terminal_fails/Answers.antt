use mathlib.Core.Path.{sym, ◌∙◌}
use Rattle.match_lake.specs.laws.Asks.{terminal-asked}
use Rattle.match_lake.proofs.terminal_fails.Goals as goal

pub returns-else-not-member : goal.returns-else-not-member
returns-else-not-member c = λ cells n.
    terminal-asked c.args.t.now c.args.s.now cells n c.args.alt c.args.i c.args.p _ (sym c.member.ensures ∙ c.if-not-member.false) c.leaf_at.ensures
