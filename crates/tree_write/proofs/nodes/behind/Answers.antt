use Rattle.std.proofs.Common.{refl, ap, arith}
use Rattle.tree_json.specs.Json.{closings}
use Rattle.read_tokens.specs.Bounds.{node_words}
use Rattle.match_list.specs.Nodes.{room_of}
use Rattle.write_leaves.specs.steps.Pen.{after}
use Rattle.write_leaves.specs.laws.Pen.{then, said}
use Rattle.tree_write.specs.laws.Nodes.{behind-last, behind-child, behind-else}
use Rattle.tree_write.proofs.nodes.behind.Goals as goal

pub overflow_mul-k : goal.overflow_mul-k
unfolding room_of node_words
overflow_mul-k c = omega (arith, c.requires)

pub overflow_add-k : goal.overflow_add-k
unfolding room_of node_words
overflow_add-k c = omega (arith, c.requires)

pub overflow_add-j : goal.overflow_add-j
unfolding room_of node_words
overflow_add-j c = omega (arith, c.requires)

pub returns-then-j-nodes : goal.returns-then-j-nodes
unfolding room_of node_words
returns-then-j-nodes c = said _ (behind-last c.args.nodes.now c.args.k c.word-child.result c.word-child.ensures.0 c.if-j-nodes.true) c.close.ensures

pub overflow_mul-j : goal.overflow_mul-j
unfolding room_of node_words
overflow_mul-j c = omega (arith, c.requires)

pub overflow_add-j-2 : goal.overflow_add-j-2
unfolding room_of node_words
overflow_add-j-2 c = omega (arith, c.requires)

pub returns-then-next-child : goal.returns-then-next-child
unfolding room_of node_words after
returns-then-next-child c = said _ (behind-child c.args.nodes.now c.args.k c.word-child.result c.word-child.ensures.0 c.word-next.result c.word-next.ensures.0
    c.requires c.if-j-nodes.false c.if-next-child.true) refl

pub returns : goal.returns
unfolding room_of node_words
returns c = said _ (behind-else c.args.nodes.now c.args.k c.word-child.result c.word-child.ensures.0 c.word-next.result c.word-next.ensures.0
    c.requires c.if-j-nodes.false c.if-next-child.false) (then _ _ _ (said _ (ap closings c.saturating_sub.ensures) c.close-2.ensures) c.emit.ensures)
