use mathlib.Core.Path.{refl, sym, ap, ◌∙◌}
use Prim.Native.Nat.{ℕ, ◌+◌}
use native.Mathlib.Omega.{arith}
use Rattle.std.specs.Prelude.{Option, Some, None, slice_get, unwrap_or}
use Rattle.std.proofs.lemmas.Option.{slice_get_within, get_or_from_slice_get}
use Rattle.read_tokens.specs.Chars.{octal, octals, letters}
use Rattle.read_tokens.specs.steps.Code.{char_of}
use Rattle.read_tokens.proofs.CharSteps.{four-end, four-raw, four-octal, four-letter, char_is}
use Rattle.read_tokens.proofs.chars.char_at.Goals as goal

pub returns-in_err-byte : goal.returns-in_err-byte
returns-in_err-byte c = c.from_residual.ensures ∙ ap char_of (four-end _ _ _ _ refl ∙ char_is c.args.text.now c.args.at None _ _ _ c.in_err-byte.ensures refl refl refl)

pub returns-then-byte-ne92 : goal.returns-then-byte-ne92
returns-then-byte-ne92 c = ap char_of (four-raw _ _ _ _ (λ z. omega (
  arith,
  z,
  c.type_inv.text c.args.at,
  get_or_from_slice_get c.args.text.now c.args.at c.in_ok-byte.byte 0
      (sym c.in_ok-byte.ensures),
)) c.if-byte-ne92.true ∙ char_is c.args.text.now c.args.at (Some c.in_ok-byte.byte) _ _ _ c.in_ok-byte.ensures refl refl refl)

pub overflow_add-at : goal.overflow_add-at
overflow_add-at c = omega (arith, slice_get_within c.args.text.now c.args.at _ (sym c.in_ok-byte.ensures))

pub overflow_add-at-in-Some : goal.overflow_add-at-in-Some
overflow_add-at-in-Some c = omega (arith, slice_get_within c.args.text.now c.args.at _ (sym c.in_ok-byte.ensures))

pub overflow_add-at-in-Some-2 : goal.overflow_add-at-in-Some-2
overflow_add-at-in-Some-2 c = omega (arith, slice_get_within c.args.text.now c.args.at _ (sym c.in_ok-byte.ensures))

pub returns-in-Some : goal.returns-in-Some
returns-in-Some c =
    c.octal_of.ensures
    ∙ ap char_of (
    ap (λ (x : ℕ). octals x (unwrap_or c.byte_at-in-Some.result 256) (unwrap_or c.byte_at-in-Some-2.result 256)) (sym c.in-Some.ensures.1)
    ∙ four-octal _ _ _ _ c.if-byte-ne92.false c.in-Some.ensures.0
    ∙ char_is c.args.text.now c.args.at (Some c.in_ok-byte.byte) c.byte_at-next.result _ _ c.in_ok-byte.ensures c.byte_at-next.ensures
    c.byte_at-in-Some.ensures c.byte_at-in-Some-2.ensures)

pub returns-in_err-next : goal.returns-in_err-next
unfolding letters
returns-in_err-next c =
    c.from_residual-in_err-next.ensures
    ∙ ap char_of (
    four-letter _ 256 (unwrap_or (slice_get c.args.text.now (c.args.at + 2)) 256) (unwrap_or (slice_get c.args.text.now (c.args.at + 3)) 256) c.if-byte-ne92.false refl
    ∙ char_is c.args.text.now c.args.at (Some c.in_ok-byte.byte) None _ _ c.in_ok-byte.ensures (sym c.in_err-next.was ∙ c.byte_at-next.ensures) refl refl)

pub returns-in_err-byte-2 : goal.returns-in_err-byte-2
returns-in_err-byte-2 c =
    c.from_residual-in_err-byte-2.ensures
    ∙ c.in_err-byte-2.ensures
    ∙ ap char_of (
    four-letter _ _ _ _ c.if-byte-ne92.false (sym (ap (λ (o : Option ℕ). octal (unwrap_or o 256)) c.in_ok-next.was) ∙ c.in_default.ensures)
    ∙ char_is c.args.text.now c.args.at (Some c.in_ok-byte.byte) (Some c.in_ok-next.field-0) _ _ c.in_ok-byte.ensures (sym c.in_ok-next.was ∙ c.byte_at-next.ensures) refl refl)

pub returns : goal.returns
returns c =
    c.in_ok-byte-2.ensures
    ∙ ap char_of (
    four-letter _ _ _ _ c.if-byte-ne92.false (sym (ap (λ (o : Option ℕ). octal (unwrap_or o 256)) c.in_ok-next.was) ∙ c.in_default.ensures)
    ∙ char_is c.args.text.now c.args.at (Some c.in_ok-byte.byte) (Some c.in_ok-next.field-0) _ _ c.in_ok-byte.ensures (sym c.in_ok-next.was ∙ c.byte_at-next.ensures) refl refl)
