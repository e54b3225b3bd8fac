use native.Mathlib.Omega.{arith}
use Rattle.read_tokens.proofs.ClassSteps.{at-end, at-close, no_item, item_some, one-item, to_same, to-on}
use Rattle.read_tokens.proofs.classes.set_items.Goals as goal

pub loop-i-init : goal.loop-i-init
loop-i-init c = (c.requires, to_same)

pub returns-then-text-i-eq93 : goal.returns-then-text-i-eq93
returns-then-text-i-eq93 c = c.loop-i.invariant.1.back _ _ (at-close c.args.text.now c.loop-i.i c.loop-i.marks c.loop-i-test.true c.if-text-i-eq93.true)

pub item_at-requires : goal.item_at-requires
item_at-requires c = c.loop-i.invariant.0

pub returns-in_err-item : goal.returns-in_err-item
returns-in_err-item c =
    rw c.from_residual.ensures
    (c.loop-i.invariant.1.back _ _ (no_item c.args.text.now c.loop-i.i c.loop-i-test.true c.if-text-i-eq93.false c.loop-i.marks _ c.in_err-item.ensures.0))

pub overflow_add-i : goal.overflow_add-i
overflow_add-i c = omega (arith, c.in_ok-item.ensures.1)

pub loop-i-smaller : goal.loop-i-smaller
loop-i-smaller c = omega (arith, c.in_ok-item.ensures.1, item_some _ c.in_ok-item.ensures.0)

pub loop-i-preserved : goal.loop-i-preserved
loop-i-preserved c = (
  c.in_ok-item.ensures.1.0,
  to-on c.set_range.ensures
      (one-item c.args.text.now c.loop-i.i c.loop-i-test.true c.if-text-i-eq93.false _ c.in_ok-item.ensures.0 c.loop-i.marks) c.loop-i.invariant.1,
)

pub returns : goal.returns
returns c = c.loop-i.invariant.1.back _ _ (at-end c.args.text.now c.loop-i.i c.loop-i.marks _ c.loop-i-test.false)

pub set_range-requires : goal.set_range-requires
set_range-requires c = c.in_ok-item.ensures.1.1
