use mathlib.Core.Path.{refl, sym}
use native.Mathlib.Omega.{arith}
use lib.ListN.{length}
use Rattle.match_run.specs.laws.Runs.{need-small, ran-long, ran-few, ran-none, ready, ran-all}
use Rattle.match_keys.specs.laws.Keys.{fresh-none}
use Rattle.match_cells.specs.laws.Runs.{knows_count}
use Rattle.match_run.proofs.run.Goals as goal

pub returns-then-input-gt65535 : goal.returns-then-input-gt65535
returns-then-input-gt65535 c = ran-long c.args.t.now c.args.input.now
    c.args.cells.now c.args.nodes.now c.not_matched.ensures c.if-input-gt65535.true

pub overflow_mul-need : goal.overflow_mul-need
overflow_mul-need c = omega (
  arith,
  need-small c.symbols-n.result (length c.args.input.now)
      (omega (arith, c.symbols-n.ensures, c.requires.plain.holds.few-symbols)) (omega (arith, c.if-input-gt65535.false)),
)

pub returns-then-cells-need : goal.returns-then-cells-need
returns-then-cells-need c = ran-few c.args.t.now c.args.input.now
    c.args.cells.now c.args.nodes.now
    c.symbols-n.result _ c.symbols-n.ensures (omega (arith, c.if-input-gt65535.false)) refl c.not_matched-then-cells-need.ensures c.if-cells-need.true

pub fill-requires : goal.fill-requires
fill-requires c = (
  (
    c.requires.plain.holds.few-symbols,
    omega
        (arith, c.if-input-gt65535.false),
  ),
  fresh-none c.args.t.now 34075 (omega arith),
)

pub returns-then-c-eq0 : goal.returns-then-c-eq0
returns-then-c-eq0 c = rw c.not_matched-then-c-eq0.ensures (ran-none c.args.t.now
    c.args.input.now
    c.args.cells.now
    c.args.nodes.now
    c.symbols-n.result _
    c.symbols-n.ensures
    (omega (arith, c.if-input-gt65535.false)) refl
    (omega (arith, c.if-cells-need.false)) _
    c.fill.ensures.0 c.word-c.result c.word-c.ensures.0 c.if-c-eq0.true)

pub list-requires : goal.list-requires
list-requires c = (
  ready c.args.t.now c.args.input.now c.args.cells.now
      c.args.nodes.now c.symbols-n.result _
      c.symbols-n.ensures (omega
      (arith, c.if-input-gt65535.false)) refl (omega
      (arith, c.if-cells-need.false)) _
      c.fill.ensures.0
      c.requires,
  knows_count c.args.t.now c.args.input.now _ _ _ _ (sym c.symbols-n.ensures)
      c.fill.ensures.1,
)

pub returns : goal.returns
returns c = ran-all c.args.t.now
    c.args.input.now
    c.args.cells.now
    c.args.nodes.now
    c.symbols-n.result _
    c.symbols-n.ensures
    (omega (
      arith,
      c.if-input-gt65535.false,
    )) refl (omega (
      arith,
      c.if-cells-need.false,
    )) _ c.fill.ensures.0
    c.word-c.result
    c.word-c.ensures.0
    c.if-c-eq0.false c.list.result _ c.listed_match.result
    c.list.ensures.0 c.list.ensures.1 c.listed_match.ensures
