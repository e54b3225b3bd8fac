use native.Mathlib.Omega.{arith}
use mathlib.Core.Path.{◌∙◌}
use borrow.Author.Tests.{lt-leb}
use Rattle.read_tokens.specs.Bounds.{node_words}
use Rattle.match_list.proofs.laws.Reading.{sound-short, sound-turned, sound-else}
use Rattle.match_list.proofs.sound.Goals as goal

pub returns-then-nodes-k : goal.returns-then-nodes-k
unfolding node_words
returns-then-nodes-k c = sound-short c.args.nodes.now c.args.k c.args.n c.if-nodes-k.true

pub node_word-start-requires : goal.node_word-start-requires
unfolding node_words
node_word-start-requires c = (omega (arith, c.if-nodes-k.false), omega arith)

pub node_word-end-requires : goal.node_word-end-requires
unfolding node_words
node_word-end-requires c = (omega (arith, c.if-nodes-k.false), omega arith)

pub returns-then-start-end : goal.returns-then-start-end
unfolding node_words
returns-then-start-end c =
    sound-else c.args.nodes.now c.args.k c.args.n c.node_word-start.result c.node_word-end.result (omega (arith, c.if-nodes-k.false))
    c.node_word-start.ensures c.node_word-end.ensures (omega (arith, c.if-start-end.true))

pub returns-else-start-end : goal.returns-else-start-end
unfolding node_words
returns-else-start-end c =
    lt-leb c.node_word-start.result c.node_word-end.result (omega (arith, c.if-start-end.false))
    ∙ sound-turned c.args.nodes.now c.args.k c.args.n c.node_word-start.result c.node_word-end.result (omega (arith, c.if-nodes-k.false))
    c.node_word-start.ensures c.node_word-end.ensures (omega (arith, c.if-start-end.false))
