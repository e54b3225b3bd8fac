use Rattle.read_grammar.specs.laws.Marks.{end-n}
use Rattle.read_grammar.proofs.Reader.mark_all.Goals as goal

pub returns : goal.returns
returns c = end-n c.loop-next.invariant.2 c.in_default.ensures
