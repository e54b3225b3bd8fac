use native.Mathlib.Omega.{arith}
use Rattle.read_tokens.specs.Bounds.{node_words}
use Rattle.match_list.proofs.node_word.Goals as goal

pub overflow_add-k : goal.overflow_add-k
unfolding node_words
overflow_add-k c = omega (arith, c.requires.0, c.requires.1)

pub returns : goal.returns
unfolding node_words
returns c = c.word.ensures.0
