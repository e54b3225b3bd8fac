use Rattle.std.proofs.Common.{ap, sym, false}
use Rattle.read_tokens.specs.Bounds.{node_words}
use Rattle.match_list.specs.Nodes.{room_of}
use Rattle.write_leaves.specs.steps.Pen.{after}
use Rattle.write_leaves.specs.steps.Printed.{called}
use Rattle.write_leaves.specs.laws.Pen.{less, done}
use Rattle.tree_write.specs.laws.Nodes.{rest-start, rest_more, rest_end}
use Rattle.tree_write.proofs.nodes.text.Goals as goal

pub loop-k-init : goal.loop-k-init
unfolding room_of node_words
loop-k-init c = ap (after c.args.pen.now) (sym (rest-start (called false c.args.t.now) c.args.input.now c.args.nodes.now))

pub node-requires : goal.node-requires
unfolding room_of node_words
node-requires c = c.loop-k-test.true

pub loop-k-preserved : goal.loop-k-preserved
unfolding room_of node_words
loop-k-preserved c = less _ _ _ c.loop-k.invariant (rest_more (called false c.args.t.now) c.args.input.now c.args.nodes.now c.loop-k.k c.loop-k-test.true) c.node.ensures

pub returns : goal.returns
unfolding room_of node_words
returns c = done _ _ c.loop-k.invariant (rest_end (called false c.args.t.now) c.args.input.now c.args.nodes.now c.loop-k.k c.loop-k-test.false)
