use Rattle.std.proofs.Common.{refl}
use Rattle.write_leaves.specs.steps.Pen.{after}
use Rattle.write_leaves.specs.laws.Pen.{said}
use Rattle.tree_write.specs.laws.Values.{digit-none}
use Rattle.tree_write.proofs.values.lead.Goals as goal

pub returns-else-k-n : goal.returns-else-k-n
unfolding after
returns-else-k-n c = said _ (digit-none c.args.n c.args.k c.if-k-n.false) refl
