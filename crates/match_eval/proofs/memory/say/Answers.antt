use mathlib.Core.Path.{sym, ◌∙◌}
use Rattle.match_eval.proofs.laws.Said.{spoken, spoken-none}
use Rattle.match_eval.proofs.memory.say.Goals as goal

pub returns-then-said-eq0 : goal.returns-then-said-eq0
returns-then-said-eq0 c = spoken c.args.mem.now _ _
    c.args.b
    c.args.x
    c.args.v
    c.requires.1
    c.requires.0
    c.requires.2
    c.requires.3
    (sym c.said.ensures ∙ c.if-said-eq0.true)
    c.mark.ensures c.mark-then-said-eq0.ensures

pub returns-else-said-eq0 : goal.returns-else-said-eq0
returns-else-said-eq0 c = spoken-none c.args.b c.args.x c.args.v c.args.mem.now
