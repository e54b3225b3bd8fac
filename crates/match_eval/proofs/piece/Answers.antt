use mathlib.Core.Path.{sym, ◌∙◌}
use native.Mathlib.Omega.{arith}
use Prim.Native.Nat.{◌+◌, ◌≤◌}
use lib.ListN.{length}
use Rattle.grammar_table.specs.Table.{node_by}
use Rattle.match_eval.specs.Eval.{ev}
use Rattle.match_eval.proofs.laws.Evaluated.{zero-tree, node-ev}
use Rattle.match_eval.proofs.laws.Memory.{knows-from, said-right, said-ends, said-room, said-next, said-plus, star-rounds, rounds-within}
use Rattle.match_eval.proofs.piece.Goals as goal

pub returns-then-w-ne0 : goal.returns-then-w-ne0
returns-then-w-ne0 c =
    said-right c.args.t.now c.args.s.now c.args.cells.now c.args.mem.now c.args.n 0 c.args.p c.requires.1 c.args.x
    c.byte_at-b.result c.said-w.result (omega (arith, c.requires.0))
    c.byte_at-b.ensures.0 c.said-w.ensures c.if-w-ne0.true

pub returns-then-x-eq0 : goal.returns-then-x-eq0
returns-then-x-eq0 c =
    c.any_at.ensures ∙ zero-tree c.args.s.now c.args.cells.now c.args.t.now c.args.n c.args.x c.args.p c.if-x-eq0.true

pub returns-in-1 : goal.returns-in-1
unfolding ev node_by
returns-in-1 c = c.cell_at.ensures ∙ node-ev c.args.s.now
    c.args.cells.now
    c.args.t.now
    c.args.n
    c.args.x
    c.args.p 1 c.left-l.result
    c.if-x-eq0.false (sym c.in-1.is ∙ c.op.ensures.0)
    c.left-l.ensures.0

pub overflow_add-result : goal.overflow_add-result
overflow_add-result c =
    omega (
      arith,
      rounds-within c.args.t.now c.args.s.now c.args.cells.now c.args.n c.part-y.result c.args.p
          (omega (arith, c.requires.0)),
      c.many_at.ensures,
      c.requires.0,
    )

pub returns-in-5 : goal.returns-in-5
returns-in-5 c =
    star-rounds c.args.t.now c.args.s.now c.args.cells.now c.args.n c.args.p c.args.x c.part-y.result
    c.left-l.result c.many_at.result c.if-x-eq0.false
    (sym c.in-5.is ∙ c.op.ensures.0) c.left-l.ensures.0
    c.part-y.ensures c.many_at.ensures

-- a byte behind it that is no round
pub returns-then-u-eq1 : goal.returns-then-u-eq1
returns-then-u-eq1 c =
    let m : 3 ≤ c.said-v.result = omega (arith, c.if-v-eq3.true) in
    let room : c.args.p + 1 ≤ length c.args.s.now =
    said-room c.args.t.now c.args.s.now c.args.cells.now c.args.mem.now c.args.n c.args.p
    c.requires.1
    (omega (
      arith,
      c.requires.0,
    )) c.part-y-in-6.result
    c.byte_at-b.result
    c.said-v.result
    c.byte_at-b.ensures.0
    c.said-v.ensures m in
    said-plus c.args.t.now c.args.s.now c.args.cells.now c.args.mem.now c.args.n c.args.p
    c.requires.1
    (omega (
      arith,
      c.requires.0,
    )) c.part-y-in-6.result
    c.byte_at-b.result
    c.said-v.result
    c.byte_at-b.ensures.0
    c.said-v.ensures c.args.x c.left-l.result 1
    c.if-x-eq0.false (sym
    c.in-6.is ∙ c.op.ensures.0) c.left-l.ensures.0
    c.part-y-in-6.ensures m
    (said-next c.args.t.now c.args.s.now c.args.cells.now c.args.mem.now c.args.n c.args.p
    c.requires.1
    (omega (
      arith,
      c.requires.0,
    )) c.part-y-in-6.result
    c.byte_at-b.result
    c.said-v.result
    c.byte_at-b.ensures.0
    c.said-v.ensures 0 m
    (said-ends c.args.t.now c.args.s.now c.args.cells.now c.args.mem.now c.args.n (c.args.p + 1)
    (knows-from c.args.t.now c.args.s.now c.args.cells.now c.args.mem.now c.args.n 0 0 c.args.p (c.args.p + 1) (omega arith) (omega arith)
    c.requires.1) room c.part-y-in-6.result
    c.byte_at-d.result c.said-u.result c.byte_at-d.ensures.0 c.said-u.ensures (λ z. omega (arith, z, c.if-u-eq1.true))
    (omega (arith, c.if-u-eq1.true))))

pub overflow_add-result-then-v-eq3 : goal.overflow_add-result-then-v-eq3
overflow_add-result-then-v-eq3 c =
    omega (
      arith,
      rounds-within c.args.t.now c.args.s.now c.args.cells.now c.args.n c.part-y-in-6.result c.args.p
          (omega (
            arith,
            c.requires.0,
          )),
      c.many_at-then-v-eq3.ensures,
      c.requires.0,
    )

pub returns-then-v-eq3 : goal.returns-then-v-eq3
returns-then-v-eq3 c =
    said-plus c.args.t.now c.args.s.now c.args.cells.now c.args.mem.now c.args.n c.args.p
    c.requires.1
    (omega (
      arith,
      c.requires.0,
    ))
    c.part-y-in-6.result
    c.byte_at-b.result
    c.said-v.result
    c.byte_at-b.ensures.0
    c.said-v.ensures c.args.x
    c.left-l.result c.many_at-then-v-eq3.result
    c.if-x-eq0.false
    (sym c.in-6.is ∙ c.op.ensures.0)
    c.left-l.ensures.0
    c.part-y-in-6.ensures (omega (arith, c.if-v-eq3.true)) c.many_at-then-v-eq3.ensures
