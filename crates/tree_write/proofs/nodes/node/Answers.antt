use Rattle.write_leaves.specs.laws.Pen.{then}
use Rattle.tree_write.proofs.nodes.node.Goals as goal

pub returns : goal.returns
returns c = then _ _ _ c.head.ensures c.behind.ensures
