use Rattle.std.proofs.Common.{sym, ◌∙◌, arith}
use Rattle.replay_lines.specs.laws.Fields.{word-fits}
use Rattle.replay_lines.proofs.Fields.word.Goals as goal

pub overflow_add-self : goal.overflow_add-self
overflow_add-self c =
    omega (arith, word-fits c.args.self.now.line.now c.args.word.now c.args.self.now.at (sym c.stands-comes.ensures ∙ c.if-comes.true))
