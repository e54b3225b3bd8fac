use native.Mathlib.Omega.{arith}
use mathlib.Core.Path.{refl, sym, subst, ◌∙◌}
use Prim.Native.Nat.{ℕ, ◌+◌, ◌-◌, ◌≤◌}
use lib.ListN.{length}
use Rattle.grammar_table.specs.Table.{words_from, symbol_count}
use Rattle.grammar_table.specs.Trees.{bodies_of}
use Rattle.match_eval.specs.steps.Memory.{Knows}
use Rattle.match_eval.proofs.laws.Memory.{knows-from}
use Rattle.match_cells.specs.laws.Preset.{by-more, by_end, fillable-next}
use Rattle.match_cells.specs.laws.Tasks.{by-record, by-memory, record-row, memory-row}
use Rattle.match_cells.proofs.filling.rows.Goals as goal

pub loop-i-init : goal.loop-i-init
loop-i-init c = (omega arith, refl, refl, c.requires.known, λ j l. refl)

pub place_by-requires : goal.place_by-requires
place_by-requires c = by-record c.args.t.now
    c.args.s.now c.loop-i.cells
    c.loop-i.mem c.args.order.now
    c.args.lists.now
    c.symbols-n.result (c.loop-i.i - 1)
    c.byte_at-b.result c.in-Some.o c.symbols-n.ensures.0
    c.byte_at-b.ensures.0 c.args.plan.now
    (λ z. omega (arith, z, c.in-Some.ensures.1)) c.in-Some.ensures.0
    (fillable-next c.args.t.now
    c.args.s.now
    c.args.cells.now c.loop-i.cells
    c.args.mem.now c.loop-i.mem
    c.args.order.now
    c.args.plan.now
    c.args.lists.now (symbol_count
    c.args.t.now) (length
    c.args.s.now + 1) c.loop-i.i
    c.loop-i-test.true c.loop-i.invariant.0
    c.loop-i.invariant.4 c.loop-i.invariant.1
    c.loop-i.invariant.3 c.requires)

pub loop-i-preserved-in-Some : goal.loop-i-preserved-in-Some
loop-i-preserved-in-Some c = (
  omega (arith, c.loop-i.invariant.0),
  c.place_by.auto.cells ∙ c.loop-i.invariant.1,
  by-more c.args.t.now
      c.args.mem.now
      c.args.plan.now (bodies_of
      c.args.t.now)
      c.args.s.now (symbol_count
      c.args.t.now) (words_from
      c.args.order.now 0 (symbol_count
      c.args.t.now))
      c.loop-i.cells _ c.loop-i.i
      c.loop-i-test.true
      (record-row c.args.t.now
      c.args.s.now
      c.loop-i.cells _
      c.args.mem.now
      c.loop-i.mem
      c.args.order.now
      c.args.plan.now
      c.args.lists.now
      c.symbols-n.result
      (c.loop-i.i - 1) c.byte_at-b.result
      c.in-Some.o c.symbols-n.ensures.0
      c.byte_at-b.ensures.0 (λ z. omega (arith, z, c.in-Some.ensures.1))
      c.in-Some.ensures.0
      (fillable-next c.args.t.now
      c.args.s.now
      c.args.cells.now
      c.loop-i.cells
      c.args.mem.now
      c.loop-i.mem
      c.args.order.now
      c.args.plan.now
      c.args.lists.now (symbol_count
      c.args.t.now) (length
      c.args.s.now + 1)
      c.loop-i.i c.loop-i-test.true
      c.loop-i.invariant.0 c.loop-i.invariant.4
      c.loop-i.invariant.1 c.loop-i.invariant.3
      c.requires)
      c.place_by.ensures.0) ∙ c.loop-i.invariant.2,
  subst (λ (m : ℕ). Knows c.args.t.now
      c.args.s.now c.place_by.new.cells m
      c.place_by.new.mem (c.loop-i.i - 1)
      (c.loop-i.i - 1))
      c.symbols-n.ensures.0 c.place_by.ensures.1,
  (λ j l. c.place_by.ensures.2 j l ∙ c.loop-i.invariant.4 j l),
)

pub place-requires : goal.place-requires
place-requires c = by-memory c.args.t.now
    c.args.s.now c.loop-i.cells
    c.loop-i.mem c.args.order.now
    c.args.lists.now
    c.symbols-n.result (c.loop-i.i - 1)
    c.byte_at-b.result 0 c.symbols-n.ensures.0
    c.byte_at-b.ensures.0 c.args.plan.now
    (fillable-next c.args.t.now
    c.args.s.now
    c.args.cells.now c.loop-i.cells
    c.args.mem.now c.loop-i.mem
    c.args.order.now
    c.args.plan.now
    c.args.lists.now (symbol_count
    c.args.t.now) (length
    c.args.s.now + 1) c.loop-i.i
    c.loop-i-test.true c.loop-i.invariant.0
    c.loop-i.invariant.4 c.loop-i.invariant.1
    c.loop-i.invariant.3 c.requires)

pub learn_all-requires : goal.learn_all-requires
learn_all-requires c = (
  (
    subst (λ (m : ℕ). m ≤ 64) (sym c.symbols-n.ensures.0)
        c.requires.few,
    c.requires.short,
    omega (
      arith,
      c.loop-i.invariant.0,
      c.loop-i-test.true,
      c.requires.within,
    ),
  ),
  knows-from c.args.t.now
      c.args.s.now _
      c.loop-i.mem
      c.symbols-n.result
      (c.loop-i.i - 1 + 1)
      (c.loop-i.i - 1)
      (c.loop-i.i - 1)
      (c.loop-i.i - 1) (omega arith) (omega arith) c.place.ensures.1,
)

pub loop-i-preserved : goal.loop-i-preserved
loop-i-preserved c = (
  omega (arith, c.loop-i.invariant.0),
  c.place.auto.cells ∙ c.loop-i.invariant.1,
  by-more c.args.t.now
      c.args.mem.now
      c.args.plan.now (bodies_of
      c.args.t.now)
      c.args.s.now (symbol_count
      c.args.t.now) (words_from
      c.args.order.now 0 (symbol_count
      c.args.t.now))
      c.loop-i.cells _
      c.loop-i.i
      c.loop-i-test.true
      (memory-row c.args.t.now
      c.args.s.now
      c.loop-i.cells _
      c.args.mem.now
      c.loop-i.mem
      c.args.order.now
      c.args.plan.now
      c.args.lists.now
      c.symbols-n.result
      (c.loop-i.i - 1)
      c.byte_at-b.result
      0
      c.symbols-n.ensures.0
      c.byte_at-b.ensures.0 refl
      (sym c.in-None.ensures)
      c.loop-i.invariant.4
      c.place.ensures.0) ∙ c.loop-i.invariant.2,
  subst (λ (m : ℕ). Knows c.args.t.now
      c.args.s.now
      c.place.new.cells m c.learn_all.new.mem
      (c.loop-i.i - 1)
      (c.loop-i.i - 1))
      c.symbols-n.ensures.0 c.learn_all.ensures.0,
  (λ j l. c.learn_all.ensures.1 j l ∙ c.loop-i.invariant.4 j l),
)

pub returns : goal.returns
returns c = (
  by_end c.args.t.now c.args.mem.now
      c.args.plan.now (bodies_of c.args.t.now)
      c.args.s.now (symbol_count c.args.t.now) (words_from
      c.args.order.now 0 (symbol_count c.args.t.now))
      c.loop-i.cells c.loop-i.i (omega (arith, c.loop-i-test.false)) ∙ c.loop-i.invariant.2,
  knows-from c.args.t.now c.args.s.now c.loop-i.cells
      c.loop-i.mem (symbol_count c.args.t.now) c.loop-i.i 0 c.loop-i.i 0 (omega arith) (omega
      (arith, c.loop-i-test.false)) c.loop-i.invariant.3,
)
