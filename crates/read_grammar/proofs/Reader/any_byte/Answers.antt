use Rattle.std.proofs.Common.{refl, sym, ◌∙◌, arith}
use Rattle.read_grammar.specs.laws.Found.{matches-any}
use Rattle.read_grammar.proofs.Reader.any_byte.Goals as goal

pub returns-then-leaf_kind-eq-ANY : goal.returns-then-leaf_kind-eq-ANY
returns-then-leaf_kind-eq-ANY c = matches-any refl (omega (arith, c.terminals.ensures.0, c.if-terminals-gt0.true)) (sym c.leaf_kind.ensures.0 ∙ c.if-leaf_kind-eq-ANY.true) c.add_part.ensures
