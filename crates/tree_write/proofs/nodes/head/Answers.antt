use Rattle.std.proofs.Common.{arith}
use Rattle.read_tokens.specs.Bounds.{node_words}
use Rattle.match_list.specs.Nodes.{room_of}
use Rattle.write_leaves.specs.steps.Printed.{called}
use Rattle.write_leaves.specs.laws.Pen.{then, said}
use Rattle.std.specs.Prelude.{false}
use Rattle.tree_write.specs.laws.Nodes.{head-said}
use Rattle.tree_write.proofs.nodes.head.Goals as goal

pub overflow_mul-i : goal.overflow_mul-i
unfolding room_of node_words
overflow_mul-i c = omega (arith, c.requires)

pub overflow_add-i : goal.overflow_add-i
unfolding room_of node_words
overflow_add-i c = omega (arith, c.requires)

pub overflow_add-i-2 : goal.overflow_add-i-2
unfolding room_of node_words
overflow_add-i-2 c = omega (arith, c.requires)

pub overflow_add-i-3 : goal.overflow_add-i-3
unfolding room_of node_words
overflow_add-i-3 c = omega (arith, c.requires)

pub returns : goal.returns
unfolding room_of node_words
returns c = said _ (head-said (called false c.args.t.now) c.args.input.now c.args.nodes.now c.args.k c.word-r.result c.word-p.result c.word-q.result
    c.word-r.ensures.0 c.word-p.ensures.0 c.word-q.ensures.0) (then _ _ _ c.name.ensures (then _ _ _ c.span.ensures c.part.ensures))
