use Rattle.read_tokens.specs.Bounds.{node_words}
use Rattle.match_list.specs.Nodes.{node_at}
use Rattle.tree_list.specs.laws.Handing.{read}
use Rattle.tree_list.proofs.node_at.Goals as goal

pub returns : goal.returns
unfolding node_at node_words
returns c = record {
  is = read c.args.words.now c.args.k _ _ _ _ c.word.ensures.0 c.word-2.ensures.0 c.word-3.ensures.0 c.word-4.ensures.0;
  start = c.word-2.ensures.1;
  end = c.word-3.ensures.1;
  depth = c.word-4.ensures.1;
}
