use native.Mathlib.Omega.{arith}
use Prim.Native.Nat.{ℕ}
use mathlib.Core.Path.{ap, ◌∙◌}
use lib.ListN.{drop}
use Rattle.grammar_table.specs.Table.{up_to, leaf_in}
use Rattle.lake_plain.specs.Plain.{terminals_in}
use Rattle.match_lake.specs.Asking.{none_matches}
use Rattle.match_lake.specs.laws.Asks.{way-own, way-water, way_end, way-symbol, way-terminal, way-skip}
use Rattle.match_lake.specs.steps.Ways.{way_of}
use Rattle.match_lake.proofs.way.Goals as goal

pub returns-then-takes : goal.returns-then-takes
unfolding way_of
returns-then-takes c =
    ap way_of (rw c.symbols-n.ensures.0 at (way-own c.args.t.now c.args.s.now c.args.cells.now c.symbols-n.result c.args.alt c.args.l c.args.p c.body-b.result c.symbols-n.ensures.0 (omega (
      arith,
      c.symbols-n.ensures.0,
      c.requires.0.2,
    )) c.body-b.ensures.0 c.takes.result c.takes.ensures
    c.if-takes.true))

pub returns-then-water_takes : goal.returns-then-water_takes
unfolding way_of
returns-then-water_takes c =
    ap way_of (rw c.symbols-n.ensures.0 at (way-water c.args.t.now c.args.s.now c.args.cells.now c.symbols-n.result c.args.alt c.args.l c.args.p c.body-b.result c.symbols-n.ensures.0 (omega (
      arith,
      c.symbols-n.ensures.0,
      c.requires.0.2,
    )) c.body-b.ensures.0
    c.takes.result c.takes.ensures c.water_takes.result c.water_takes.ensures
    c.if-takes.false c.if-water_takes.true))

pub returns-then-s-p : goal.returns-then-s-p
unfolding way_of
returns-then-s-p c =
    ap way_of (rw c.symbols-n.ensures.0 at (way_end c.args.t.now c.args.s.now c.args.cells.now c.symbols-n.result c.args.alt c.args.l c.args.p c.body-b.result c.symbols-n.ensures.0 (omega (
      arith,
      c.symbols-n.ensures.0,
      c.requires.0.2,
    )) c.body-b.ensures.0
    c.takes.result c.takes.ensures c.water_takes.result
    c.water_takes.ensures c.if-takes.false c.if-water_takes.false c.if-s-p.true))

pub returns-then-not-symbols_fail : goal.returns-then-not-symbols_fail
unfolding way_of
returns-then-not-symbols_fail c =
    ap way_of (rw c.symbols-n.ensures.0 at (way-symbol c.args.t.now c.args.s.now c.args.cells.now c.symbols-n.result c.args.alt c.args.l c.args.p c.body-b.result c.symbols-n.ensures.0 (omega
    (arith, c.symbols-n.ensures.0, c.requires.0.2))
    c.body-b.ensures.0 c.takes.result
    c.takes.ensures c.water_takes.result
    c.water_takes.ensures c.if-takes.false c.if-water_takes.false
    c.symbols_fail.result (omega (arith, c.if-s-p.false)) c.symbols_fail.ensures c.if-not-symbols_fail.true))

pub returns-then-not-terminals_fail : goal.returns-then-not-terminals_fail
unfolding way_of
returns-then-not-terminals_fail c =
    ap way_of (rw c.symbols-n.ensures.0 at (way-terminal c.args.t.now c.args.s.now c.args.cells.now c.symbols-n.result c.args.alt c.args.l c.args.p
    c.body-b.result c.symbols-n.ensures.0 (omega (
      arith,
      c.symbols-n.ensures.0,
      c.requires.0.2,
    ))
    c.body-b.ensures.0
    c.takes.result
    c.takes.ensures
    c.water_takes.result
    c.water_takes.ensures
    c.if-takes.false
    c.if-water_takes.false c.symbols_fail.result (omega (
      arith,
      c.if-s-p.false,
    )) c.symbols_fail.ensures
    c.terminals_fail.result (c.terminals_fail.ensures c.args.cells.now c.symbols-n.result ∙ ap (λ (m : ℕ). none_matches c.args.s.now c.args.cells.now c.symbols-n.result (terminals_in c.args.alt 0
    (drop 0 (up_to (leaf_in c.args.t.now) m))) c.args.p) c.terminals-m.ensures.0) c.if-not-symbols_fail.false c.if-not-terminals_fail.true))

pub returns : goal.returns
unfolding way_of
returns c =
    ap way_of (rw c.symbols-n.ensures.0 at (way-skip c.args.t.now c.args.s.now c.args.cells.now c.symbols-n.result c.args.alt c.args.l c.args.p
    c.body-b.result c.symbols-n.ensures.0 (omega (
      arith,
      c.symbols-n.ensures.0,
      c.requires.0.2,
    ))
    c.body-b.ensures.0
    c.takes.result
    c.takes.ensures
    c.water_takes.result
    c.water_takes.ensures
    c.if-takes.false
    c.if-water_takes.false c.symbols_fail.result (omega (
      arith,
      c.if-s-p.false,
    )) c.symbols_fail.ensures
    c.terminals_fail.result (c.terminals_fail.ensures c.args.cells.now c.symbols-n.result ∙ ap (λ (m : ℕ). none_matches c.args.s.now c.args.cells.now c.symbols-n.result (terminals_in c.args.alt 0
    (drop 0 (up_to (leaf_in c.args.t.now) m))) c.args.p) c.terminals-m.ensures.0) c.if-not-symbols_fail.false c.if-not-terminals_fail.false))
