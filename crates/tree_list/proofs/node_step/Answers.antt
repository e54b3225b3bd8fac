use Rattle.read_tokens.specs.Bounds.{node_words}
use Rattle.match_list.specs.Nodes.{room_of}
use Rattle.tree_list.specs.laws.Handing.{step-none, step-one}
use Rattle.tree_list.proofs.node_step.Goals as goal

pub returns-then-words-at : goal.returns-then-words-at
unfolding room_of node_words
returns-then-words-at c = step-none c.args.words.now c.args.at c.if-words-at.true

pub returns : goal.returns
unfolding room_of node_words
returns c = step-one c.args.words.now c.args.at c.if-words-at.false c.node_at.result
    c.node_at.ensures.is
