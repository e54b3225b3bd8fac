use Rattle.read_grammar.specs.laws.Rules.{one-rule}
use Rattle.read_grammar.proofs.Reader.rule.Goals as goal

pub returns : goal.returns
returns c = one-rule c.over-a.ensures c.over-b.ensures c.choice-j.ensures c.set_body.ensures
