use Prim.Native.Nat.{◌≤◌}
use mathlib.Core.Path.{sym, ◌∙◌}
use native.Mathlib.Omega.{arith}
use Rattle.read_tokens.specs.declared.Mode.{Mode}
use Rattle.read_tokens.specs.declared.Mode.TheVariants.{Lake, Plain}
use Rattle.read_tokens.specs.Bounds.{text_bound}
use Rattle.prepare.specs.laws.Chain.{too_long_lem, syntax-refuses, second-refuses, unruled-refuses, none-refuses}
use Rattle.prepare.proofs.refusals.refused.Goals as goal

bound-small : (m : Mode) → text_bound m ≤ 1048576
unfolding text_bound
bound-small Lake = omega arith
bound-small Plain = omega arith

pub returns-then-bound-text : goal.returns-then-bound-text
returns-then-bound-text c = c.refuse.ensures ∙ too_long_lem c.args.mode c.args.text.now
    c.text_bound-bound.result c.text_bound-bound.ensures c.if-bound-text.true

pub offending-requires : goal.offending-requires
offending-requires c = omega (arith, bound-small c.args.mode, c.text_bound-bound.ensures, c.if-bound-text.false)

pub returns-in-Some : goal.returns-in-Some
returns-in-Some c = syntax-refuses c.args.mode c.args.text.now c.text_bound-bound.result c.text_bound-bound.ensures (omega (arith, c.if-bound-text.false)) c.in-Some.f c.in-Some.ensures

pub refused-names-requires : goal.refused-names-requires
refused-names-requires c = omega (arith, bound-small c.args.mode, c.text_bound-bound.ensures, c.if-bound-text.false)

pub returns-in-Some-second : goal.returns-in-Some-second
returns-in-Some-second c =
    c.refuse-in-Some-second.ensures
    ∙ second-refuses c.args.mode c.args.text.now c.text_bound-bound.result c.text_bound-bound.ensures (omega (arith, c.if-bound-text.false))
    c.in_default.ensures _ (sym c.in-Some-second.is ∙ c.refused-names.ensures.four)

pub returns-in-Some-unruled : goal.returns-in-Some-unruled
returns-in-Some-unruled c =
    c.refuse-in-Some-unruled.ensures
    ∙ unruled-refuses c.args.mode c.args.text.now c.text_bound-bound.result c.text_bound-bound.ensures (omega (arith, c.if-bound-text.false))
    c.in_default.ensures (sym c.in_default-second.is ∙ c.refused-names.ensures.four) _
    (sym c.in-Some-unruled.is ∙ c.refused-names.ensures.five c.in_default-second.is)

pub returns : goal.returns
returns c =
    none-refuses c.args.mode c.args.text.now c.text_bound-bound.result c.text_bound-bound.ensures (omega (arith, c.if-bound-text.false))
    c.in_default.ensures (sym c.in_default-second.is ∙ c.refused-names.ensures.four)
    (sym c.in_default-unruled.is ∙ c.refused-names.ensures.five c.in_default-second.is)
