use Rattle.write_leaves.specs.laws.Pen.{then}
use Rattle.tree_write.proofs.nodes.part.Goals as goal

pub returns : goal.returns
returns c = then _ _ _ c.emit_all.ensures (then _ _ _ c.chars.ensures c.emit_all-2.ensures)
