use Rattle.std.proofs.Common.{refl, sym, ◌∙◌, map, arith}
use Rattle.read_entries.specs.steps.Entries.{bit_of}
use Rattle.read_entries.proofs.Steps.{marks-at, marks-none, store-whole, store-next, store-none}
use Rattle.read_entries.proofs.leaves.put_class.Goals as goal

pub loop-i-init : goal.loop-i-init
loop-i-init c = store-whole _ _ _ (map bit_of c.args.marks.now) refl

pub loop-i-preserved : goal.loop-i-preserved
loop-i-preserved c = c.loop-i.invariant ∙ store-next _ _ _ _ _ _ _
    (marks-at c.args.marks.now c.loop-i.i _ (omega (arith, c.told-marks, c.loop-i-test.true)) c.from.ensures) c.put.ensures

pub returns : goal.returns
returns c = sym (c.loop-i.invariant ∙ store-none _ _ _
    (marks-none c.args.marks.now c.loop-i.i (omega (arith, c.told-marks, c.loop-i-test.false))))
