use Rattle.std.proofs.Common.{arith}
use Rattle.write_leaves.specs.laws.Pen.{then, said}
use Rattle.write_leaves.specs.laws.Leaves.{one_byte, more_bytes}
use Rattle.write_leaves.proofs.bytes.Pen.run_text.Goals as goal

pub returns-then-lo-hi : goal.returns-then-lo-hi
returns-then-lo-hi c = said _ (more_bytes c.args.lo c.args.hi c.if-lo-hi.true)
    (then _ _ _ c.class_char.ensures (then _ _ _ c.emit.ensures c.class_char-then-lo-hi.ensures))

pub returns-else-lo-hi : goal.returns-else-lo-hi
returns-else-lo-hi c = said _ (one_byte c.args.lo c.args.hi c.if-lo-hi.false) c.class_char.ensures
