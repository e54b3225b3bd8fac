use Rattle.std.proofs.Common.{refl, arith}
use Rattle.read_tokens.specs.Bounds.{node_words}
use Rattle.match_list.specs.Nodes.{room_of}
use Rattle.tree_list.specs.laws.Judging.{judging-begins, judging-goes-on, judging-stops, judging-empty, judging-cut, judging-good}
use Rattle.tree_list.proofs.bad_node.Goals.{then-room-eq0-via-then-room-eq0, then-room-eq0-via-else-room-eq0+then-room-nodes}
use Rattle.tree_list.proofs.bad_node.Goals as goal

pub loop-k-init : goal.loop-k-init
unfolding room_of node_words
loop-k-init c = judging-begins c.args.symbols c.args.n c.args.nodes.now _ refl refl

pub returns-then-not-admit : goal.returns-then-not-admit
unfolding room_of node_words
returns-then-not-admit c = judging-stops c.args.symbols c.args.n c.args.nodes.now c.loop-k.k c.loop-k.depths c.loop-k.gaps _ c.loop-k.invariant
    c.loop-k-test.true c.node_at-x.result c.node_at-x.ensures.is c.admit.result c.admit.ensures c.if-not-admit.true

pub loop-k-preserved : goal.loop-k-preserved
unfolding room_of node_words
loop-k-preserved c = judging-goes-on c.args.symbols c.args.n c.args.nodes.now c.loop-k.k c.loop-k.depths c.loop-k.gaps _ c.loop-k.invariant
    c.loop-k-test.true c.node_at-x.result c.node_at-x.ensures.is c.admit.result c.admit.ensures c.if-not-admit.false

pub returns-then-room-eq0 : goal.returns-then-room-eq0
unfolding room_of node_words
returns-then-room-eq0 c = elim c.then-room-eq0.branch [
  | then-room-eq0-via-then-room-eq0 w ↦ judging-empty c.args.symbols c.args.n c.args.nodes.now c.loop-k.k c.loop-k.depths c.loop-k.gaps c.loop-k.invariant c.loop-k-test.false w.if-room-eq0.true
  | then-room-eq0-via-else-room-eq0+then-room-nodes w ↦ judging-cut c.args.symbols c.args.n c.args.nodes.now c.loop-k.k c.loop-k.depths c.loop-k.gaps c.loop-k.invariant c.loop-k-test.false
      w.if-room-nodes.true
]

pub returns : goal.returns
unfolding room_of node_words
returns c = judging-good c.args.symbols c.args.n c.args.nodes.now c.loop-k.k c.loop-k.depths c.loop-k.gaps c.loop-k.invariant c.loop-k-test.false (omega
    (arith, c.if-room-eq0.false)) c.if-room-nodes.false
