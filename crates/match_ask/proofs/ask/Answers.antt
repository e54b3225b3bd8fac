use mathlib.Core.Path.{refl}
use native.Mathlib.Omega.{arith}
use lib.ListN.{length}
use Rattle.match_eval.proofs.laws.Memory.{knows-nothing}
use Rattle.match_run.specs.laws.Runs.{need-small}
use Rattle.match_ask.specs.laws.Asks.{same, same-symbols, within, long, few, other, behind, answered}
use Rattle.match_keys.specs.laws.Keys.{fresh-none}
use Rattle.match_ask.proofs.ask.Goals as goal

pub returns-then-input-gt65535 : goal.returns-then-input-gt65535
returns-then-input-gt65535 c = same c.not_asked.ensures
    (long c.args.mode c.args.text.now
    c.args.table.now c.args.l c.requires
    c.args.input.now c.args.cells.now
    c.args.place c.if-input-gt65535.true)

pub overflow_mul-need : goal.overflow_mul-need
overflow_mul-need c = omega (
  arith,
  need-small c.symbols-n.result (length c.args.input.now)
      (omega (arith, c.symbols-n.ensures, c.requires.plain.holds.few-symbols)) (omega (arith, c.if-input-gt65535.false)),
)

pub returns-then-cells-need : goal.returns-then-cells-need
returns-then-cells-need c = same c.not_asked-then-cells-need.ensures
    (few c.args.mode c.args.text.now
    c.args.table.now c.args.l
    c.requires c.args.input.now
    c.args.cells.now c.args.place
    c.symbols-n.result _ c.symbols-n.ensures (omega (arith, c.if-input-gt65535.false)) refl c.if-cells-need.true)

pub returns-in_default : goal.returns-in_default
returns-in_default c = same c.not_asked-in_default.ensures
    (other c.args.mode
    c.args.text.now
    c.args.table.now
    c.args.l
    c.requires
    c.args.input.now
    c.args.cells.now
    c.args.place
    c.symbols-n.result _ c.symbols-n.ensures
    (omega (arith, c.if-input-gt65535.false)) refl (omega (arith, c.if-cells-need.false))
    c.in_default.is)

pub returns-then-input-place : goal.returns-then-input-place
returns-then-input-place c = same c.not_asked-then-input-place.ensures
    (behind c.args.mode
    c.args.text.now
    c.args.table.now
    c.args.l
    c.requires
    c.args.input.now
    c.args.cells.now
    c.args.place
    c.symbols-n.result _ c.symbols-n.ensures
    (omega (arith, c.if-input-gt65535.false)) refl (omega (arith, c.if-cells-need.false))
    c.in-Some.alt c.in-Some.is
    c.if-input-place.true)

pub fill-requires : goal.fill-requires
fill-requires c = (
  (
    c.requires.plain.holds.few-symbols,
    omega
        (arith, c.if-input-gt65535.false),
  ),
  fresh-none
      c.args.table.now 34075 (omega arith),
)

pub way-requires : goal.way-requires
way-requires c = (
  (
    omega (
      arith,
      same-symbols
          c.args.mode
          c.args.text.now
          c.args.table.now
          c.args.l c.requires _ c.own_again.ensures,
      c.requires.plain.holds.few-symbols,
    ),
    c.own_again.ensures.few-terminals,
    within c.args.mode
        c.args.text.now
        c.args.table.now
        c.args.l c.requires _ c.own_again.ensures
        c.in-Some.alt c.in-Some.is,
    omega (arith, c.if-input-gt65535.false),
    omega (arith, c.if-input-place.false),
  ),
  knows-nothing _ _ _ _ _ _ 34075,
)

pub returns : goal.returns
returns c = answered
    c.args.mode
    c.args.text.now
    c.args.table.now
    c.args.l
    c.requires
    c.args.input.now
    c.args.cells.now
    c.args.place
    c.symbols-n.result _
    c.symbols-n.ensures
    (omega (
      arith,
      c.if-input-gt65535.false,
    )) refl (omega
    (arith, c.if-cells-need.false))
    c.in-Some.alt c.in-Some.is
    (omega (arith, c.if-input-place.false)) _
    c.fill.ensures.0 _
    c.own_again.ensures
    c.way.result c.way.ensures
