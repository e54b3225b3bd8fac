use Rattle.std.proofs.Common.{arith}
use Rattle.tree_read.specs.laws.Eaten.{unreached, cut-gone, cut-on, cut-end}
use Rattle.tree_read.specs.laws.Chars.{part-more, part-end}
use Rattle.tree_read.proofs.leaves.eat_chars.Goals as goal

pub returns-in_err-a : goal.returns-in_err-a
returns-in_err-a c = unreached c.args.json.now c.from_residual.ensures
    (cut-gone c.args.json.now _ _ c.loop-i.invariant _ _
    (part-more c.args.input.now c.loop-i.i c.args.q (omega (arith, c.min-i-end.ensures, c.loop-i-test.true)) (omega (arith, c.min-i-end.ensures, c.loop-i-test.true))) c.in_err-a.ensures)

pub loop-i-preserved : goal.loop-i-preserved
loop-i-preserved c =
    cut-on c.args.json.now _ _ c.loop-i.invariant _ _
    (part-more c.args.input.now c.loop-i.i c.args.q (omega (arith, c.min-i-end.ensures, c.loop-i-test.true)) (omega (arith, c.min-i-end.ensures, c.loop-i-test.true))) c.in_ok-a.ensures

pub returns : goal.returns
returns c = cut-end c.args.json.now _ _ c.loop-i.invariant (part-end c.args.input.now c.loop-i.i c.args.q (omega (arith, c.min-i-end.ensures, c.loop-i-test.false)))
