use mathlib.Core.Path.{refl, sym, ap, ◌∙◌}
use Rattle.read_tokens.specs.steps.Code.{symbolic}
use mathlib.Core.Bool.{true≢false}
use native.Mathlib.Omega.{arith}
use borrow.Author.Tests.{not-true, not-false}
use Rattle.read_tokens.specs.laws.Here.{here}
use Rattle.read_walks.specs.laws.Offences.{inside}
use Rattle.read_names.specs.laws.Marks.{met-other, met-use, met-reserved, met-out, met-enter, used-other, used-left, out-unused}
use Rattle.read_names.proofs.lefts.Names.meet.Goals as goal

pub returns-then-not-is_symbol : goal.returns-then-not-is_symbol
returns-then-not-is_symbol c = (
  met-other _ _ _ _ c.requires.0 c.requires.1 _ _ _ _ (sym c.is_symbol.ensures ∙ not-true _ c.if-not-is_symbol.true-raw),
  λ z. used-other _ _ _ _ c.requires.0 _ _ (λ k. true≢false (sym (ap symbolic k) ∙ sym c.is_symbol.ensures ∙ not-true _ c.if-not-is_symbol.true-raw)),
)

pub name_start-from-requires : goal.name_start-from-requires
name_start-from-requires c = omega (
  arith,
  (here _ _ _ _ c.requires.0 c.requires.1).before-end,
  c.args.self.now.short,
)

pub pack-requires : goal.pack-requires
pack-requires c =
    let y = sym c.is_symbol.ensures ∙ not-false _ c.if-not-is_symbol.false-raw in
    (y, omega (arith, inside _ _ _ _ c.requires.0 c.requires.1 y, c.name_start-from.ensures))

pub has-requires : goal.has-requires
has-requires c = (c.in_ok-v.ensures _ refl).fits

pub returns-then-not-has : goal.returns-then-not-has
returns-then-not-has c = (
  met-out _ _ _ _ c.requires.0 c.requires.1 _ _ _ _ (sym c.is_symbol.ensures ∙ not-false _ c.if-not-is_symbol.false-raw)
      c.name_start-from.result c.name_start-from.ensures _ _ refl refl c.in_ok-v.v (c.in_ok-v.ensures _ refl) (sym (not-true _ c.if-not-has.true-raw) ∙ c.has.ensures),
  λ z. out-unused _ _ _ _ c.requires.0 _ _ (sym c.is_symbol.ensures ∙ not-false _ c.if-not-is_symbol.false-raw)
      c.name_start-from.result c.name_start-from.ensures c.in_ok-v.v (c.in_ok-v.ensures _ refl) (sym (not-true _ c.if-not-has.true-raw) ∙ c.has.ensures),
)

pub reserved_name-requires : goal.reserved_name-requires
reserved_name-requires c = omega (
  arith,
  inside _ _ _ _ c.requires.0 c.requires.1 (sym c.is_symbol.ensures ∙ not-false _ c.if-not-is_symbol.false-raw),
  c.name_start-from.ensures,
)

pub returns-then-reserved_name : goal.returns-then-reserved_name
returns-then-reserved_name c = (
  met-reserved _ _ _ _ c.requires.0 c.requires.1 _ _ _ _ (sym c.is_symbol.ensures ∙ not-false _ c.if-not-is_symbol.false-raw)
      c.name_start-from.result c.name_start-from.ensures _ c.reserved_name.result refl c.reserved_name.ensures _ c.if-reserved_name.true,
  λ z. absurd (true≢false z),
)

pub returns-then-not-is_left : goal.returns-then-not-is_left
returns-then-not-is_left c = (
  met-use _ _ _ _ c.requires.0 c.requires.1 _ _ _ _ (sym c.is_symbol.ensures ∙ not-false _ c.if-not-is_symbol.false-raw)
      c.name_start-from.result c.name_start-from.ensures c.is_left.result c.reserved_name.result c.is_left.ensures c.reserved_name.ensures
      (not-true _ c.if-not-is_left.true-raw) c.if-reserved_name.false,
  λ z. absurd (true≢false z),
)

pub enter-requires : goal.enter-requires
enter-requires c = (c.in_ok-v.ensures _ refl).fits

pub returns : goal.returns
returns c = (
  met-enter _ _ _ _ c.requires.0 c.requires.1 _ _ _ _ (sym c.is_symbol.ensures ∙ not-false _ c.if-not-is_symbol.false-raw)
      c.name_start-from.result c.name_start-from.ensures c.is_left.result c.reserved_name.result c.is_left.ensures c.reserved_name.ensures
      c.in_ok-v.v (c.in_ok-v.ensures _ refl) c.in_ok-bad.bad _ (not-false _ c.if-not-is_left.false-raw) c.if-reserved_name.false
      (sym (not-false _ c.if-not-has.false-raw) ∙ c.has.ensures) c.in_ok-bad.ensures,
  λ z. used-left _ _ _ _ c.requires.0 _ _ c.is_left.result c.is_left.ensures (not-false _ c.if-not-is_left.false-raw),
)
