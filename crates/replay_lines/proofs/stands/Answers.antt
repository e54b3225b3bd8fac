use Rattle.std.proofs.Common.{sym, ◌∙◌, ap, arith, drop, List, ℕ}
use Rattle.std.proofs.Math.Dec.{eqb}
use Rattle.std.specs.List.{starts_with}
use Rattle.replay_lines.specs.laws.Fields.{begins_is, rest_is, word-past}
use Rattle.replay_lines.proofs.stands.Goals as goal

pub returns-then-s-at : goal.returns-then-s-at
returns-then-s-at c = c.is_empty.ensures ∙ word-past c.args.s.now c.args.word.now c.args.at (omega (arith, c.if-s-at.true))

pub returns : goal.returns
returns c =
    c.starts_with.ensures.value ∙ ap (λ (l : List ℕ). starts_with eqb l c.args.word.now) (rest_is c.args.s.now c.args.at)
    ∙ sym (begins_is c.args.word.now (drop c.args.at c.args.s.now))
