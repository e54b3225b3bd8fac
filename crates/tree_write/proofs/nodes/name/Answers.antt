use Rattle.write_leaves.specs.laws.Pen.{then}
use Rattle.tree_write.proofs.nodes.name.Goals as goal

pub returns : goal.returns
returns c = then _ _ _ c.emit_all.ensures (then _ _ _ c.symbol.ensures c.emit.ensures)
