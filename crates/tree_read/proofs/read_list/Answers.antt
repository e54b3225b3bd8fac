use Rattle.std.proofs.Common.{refl, arith}
use Rattle.read_tokens.specs.Bounds.{input_bound}
use Rattle.tree_read.proofs.read_list.Goals as goal

pub returns-then-input-gt-INPUT_MOST : goal.returns-then-input-gt-INPUT_MOST
unfolding input_bound
returns-then-input-gt-INPUT_MOST c = record { long = λ h. (c.not_read.ensures, refl); within = λ h. absurd (omega (arith, h, c.if-input-gt-INPUT_MOST.true)) }

pub returns : goal.returns
unfolding input_bound
returns c = record {
  long = λ h. absurd (omega (arith, h, c.if-input-gt-INPUT_MOST.false));
  within = λ h. rw (← c.symbols.ensures) c.put_nodes.ensures;
}
