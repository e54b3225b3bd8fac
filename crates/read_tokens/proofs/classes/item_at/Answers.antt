use mathlib.Core.Path.{refl, sym, ◌∙◌}
use native.Mathlib.Omega.{arith}
use Prim.Native.Nat.{◌+◌, ◌<◌}
use lib.ListN.{length}
use borrow.Author.Tests.{not-true, not-false}
use Rattle.read_tokens.specs.laws.Widths.{width-inside}
use Rattle.read_tokens.proofs.CharSteps.{inside, is-byte, not-byte}
use Rattle.read_tokens.proofs.LiteralSteps.{width_of, byte_of, wide, width-none}
use Rattle.read_tokens.proofs.ClassSteps.{item-none, item-single, item-cut, item_back, item-range}
use Rattle.read_tokens.proofs.classes.item_at.Goals as goal

pub returns-in_err-lo : goal.returns-in_err-lo
returns-in_err-lo c = rw c.from_residual.ensures (item-none c.args.text.now c.args.at _ _ refl refl (width-none _ c.in_err-lo.ensures), tt)

pub overflow_add-dash : goal.overflow_add-dash
overflow_add-dash c = omega (arith, width-inside c.args.text.now c.args.at c.requires, width_of _ c.in_ok-lo.ensures)

pub returns-then-ne : goal.returns-then-ne
returns-then-ne c = (
  item-single c.args.text.now c.args.at _ _ (byte_of _ c.in_ok-lo.ensures) (width_of _ c.in_ok-lo.ensures) (wide _ c.in_ok-lo.ensures)
      (not-byte c.args.text.now _ 45 (omega arith) c.byte_at.ensures (not-true _ (sym c.ne.ensures ∙ c.if-ne.true))),
  omega (arith, width-inside c.args.text.now c.args.at c.requires, width_of _ c.in_ok-lo.ensures),
)

pub overflow_add-dash-2 : goal.overflow_add-dash-2
overflow_add-dash-2 c = omega (arith, inside c.args.text.now _ 45 (is-byte c.args.text.now _ 45 c.byte_at.ensures (not-false _ (sym c.ne.ensures ∙ c.if-ne.false))) (omega arith))

pub returns-in_err-end : goal.returns-in_err-end
returns-in_err-end c = rw c.from_residual-in_err-end.ensures (
  item-cut c.args.text.now c.args.at _ _ (byte_of _ c.in_ok-lo.ensures) (width_of _ c.in_ok-lo.ensures) (wide _ c.in_ok-lo.ensures)
      (is-byte c.args.text.now _ 45 c.byte_at.ensures (not-false _ (sym c.ne.ensures ∙ c.if-ne.false))) _ _ refl refl (width-none _ c.in_err-end.ensures),
  tt,
)

pub returns-then-hi-lo : goal.returns-then-hi-lo
returns-then-hi-lo c = (
  item_back c.args.text.now c.args.at _ _ (byte_of _ c.in_ok-lo.ensures) (width_of _ c.in_ok-lo.ensures) (wide _ c.in_ok-lo.ensures)
      (is-byte c.args.text.now _ 45 c.byte_at.ensures (not-false _ (sym c.ne.ensures ∙ c.if-ne.false))) _ _ (byte_of _ c.in_ok-end.ensures) (width_of _ c.in_ok-end.ensures) c.if-hi-lo.true,
  tt,
)

pub overflow_add-result : goal.overflow_add-result
overflow_add-result c = omega (arith, inside c.args.text.now _ 45 (is-byte c.args.text.now _ 45 c.byte_at.ensures (not-false _ (sym c.ne.ensures ∙ c.if-ne.false))) (omega arith))

pub overflow_add-result-2 : goal.overflow_add-result-2
overflow_add-result-2 c =
    let h : c.args.at + c.in_ok-lo.field-0.width < length c.args.text.now = inside c.args.text.now _ 45 (is-byte c.args.text.now _ 45 c.byte_at.ensures (not-false _ (sym c.ne.ensures
    ∙ c.if-ne.false))) (omega arith) in
    omega (arith, h, width-inside c.args.text.now (c.args.at + c.in_ok-lo.field-0.width + 1) (omega arith), width_of _ c.in_ok-end.ensures)

pub returns : goal.returns
returns c =
    let h : c.args.at + c.in_ok-lo.field-0.width < length c.args.text.now = inside c.args.text.now _ 45 (is-byte c.args.text.now _ 45 c.byte_at.ensures (not-false _ (sym c.ne.ensures
    ∙ c.if-ne.false))) (omega arith) in (
      item-range c.args.text.now c.args.at _ _ (byte_of _ c.in_ok-lo.ensures) (width_of _ c.in_ok-lo.ensures) (wide _ c.in_ok-lo.ensures)
          (is-byte c.args.text.now _ 45 c.byte_at.ensures (not-false _ (sym c.ne.ensures ∙ c.if-ne.false))) _ _ (byte_of _ c.in_ok-end.ensures) (width_of _ c.in_ok-end.ensures)
          (wide _ c.in_ok-end.ensures) c.if-hi-lo.false,
      omega (arith, h, width-inside c.args.text.now (c.args.at + c.in_ok-lo.field-0.width + 1) (omega arith), width_of _ c.in_ok-end.ensures),
    )
