use Rattle.std.proofs.Common.{arith}
use Rattle.write_leaves.specs.laws.Pen.{less, done}
use Rattle.tree_write.specs.laws.Values.{chars-more, chars-end}
use Rattle.tree_write.proofs.values.chars.Goals as goal

pub loop-i-preserved : goal.loop-i-preserved
loop-i-preserved c = less _ _ _ c.loop-i.invariant (chars-more c.args.input.now c.args.q c.loop-i.i (omega (arith, c.min-i-end.ensures, c.loop-i-test.true))) c.char.ensures

pub returns : goal.returns
returns c = done _ _ c.loop-i.invariant (chars-end c.args.input.now c.args.q c.loop-i.i (omega (arith, c.min-i-end.ensures, c.loop-i-test.false)))
