use mathlib.Core.Path.{◌≡◌, sym, ap, ◌∙◌}
use mathlib.Core.List.{List}
use native.Mathlib.Omega.{arith}
use native.Mathlib.Numerals.{add-one}
use lib.ListN.{length}
use Rattle.grammar.specs.Exp.{Exp}
use Rattle.grammar_table.specs.Table.{right_of, node_by, leaf_in}
use Rattle.match_eval.specs.Eval.{ev, rep}
use Rattle.match_eval.specs.steps.Memory.{rounds_of}
use Rattle.match_eval.proofs.laws.Within.{ev-within, rep-within}
use Rattle.match_eval.proofs.laws.EvalSteps.{seq-left, seq-right, seq-both, alt-left, alt-right, plus-ends, plus-takes, opt-fails, opt-takes, ahead-fails, ahead-takes, never-takes}
use Rattle.match_eval.proofs.laws.EvalSteps.{never-fails, rep-ends}
use Rattle.grammar_table.specs.Trees.{tree_of, below}
use Rattle.grammar_table.specs.laws.Trees.{node-never, below-le}
use Rattle.match_eval.proofs.laws.Evaluated.{zero-tree, node-ev}
use Rattle.match_eval.proofs.laws.Memory.{said-right, knows-from, rounds-next}
use Prim.Native.Nat.{ℕ, suc, ◌+◌, ◌-◌, ◌≤◌, ◌<◌}
use Rattle.match_eval.proofs.+eval_with_many_round.Goals as goal
use Rattle.match_eval.proofs.+eval_with_many_round.Goals.{many-then-w-eq0, many-else-w-eq0}

rounds-within : (s cs t : List ℕ) (n x q : ℕ) → q ≤ length s → rep (length s) (λ (i : ℕ). ev s cs n (tree_of t x) i) q + q ≤ length s
rounds-within s cs t n x q h = rep-within _ _ (λ (i : ℕ). ev s cs n (tree_of t x) i) (λ i g. ev-within s cs n (tree_of t x) i g) q h

pub eval_with-returns-then-x-eq0 : goal.eval_with-returns-then-x-eq0
unfolding ev
eval_with-returns-then-x-eq0 t c = c.any_at.ensures ∙ zero-tree c.args.s.now
    c.args.cells.now c.args.t.now
    c.args.n c.args.x
    c.args.p c.if-x-eq0.true

pub eval_with-returns-then-a-eq0 : goal.eval_with-returns-then-a-eq0
unfolding ev node_by
eval_with-returns-then-a-eq0 t c = seq-left _ _ _ (c.round-a.ensures ∙ ap
    (λ (i : ℕ). ev c.args.s.now
    c.args.cells.now
    c.args.n
    (tree_of c.args.t.now i)
    c.args.p) c.part-y.ensures)
    c.if-a-eq0.true ∙ node-ev c.args.s.now
    c.args.cells.now
    c.args.t.now
    c.args.n
    c.args.x
    c.args.p 2 c.left-l.result
    c.if-x-eq0.false (sym c.in-2.is ∙ c.op-op.ensures.0)
    c.left-l.ensures.0

pub eval_with-returns-then-b-eq0 : goal.eval_with-returns-then-b-eq0
unfolding ev node_by
eval_with-returns-then-b-eq0 t c = seq-right _ _ _ _ (c.round-a.ensures ∙ ap
    (λ (i : ℕ). ev c.args.s.now
    c.args.cells.now
    c.args.n
    (tree_of c.args.t.now i)
    c.args.p)
    c.part-y.ensures) c.if-a-eq0.false
    (c.round-b.ensures ∙ ap (λ (i : ℕ). ev
    c.args.s.now
    c.args.cells.now
    c.args.n (tree_of
    c.args.t.now i)
    (c.args.p +
    (c.round-a.result - 1))) (c.part-z.ensures ∙ ap (λ (j : ℕ). below j
    (c.args.x - 1))
    c.right-r.ensures.0)) c.if-b-eq0.true ∙ node-ev
    c.args.s.now
    c.args.cells.now
    c.args.t.now
    c.args.n
    c.args.x
    c.args.p 2
    c.left-l.result
    c.if-x-eq0.false (sym
    c.in-2.is
    ∙ c.op-op.ensures.0)
    c.left-l.ensures.0

pub eval_with-returns-then-a-ne0 : goal.eval_with-returns-then-a-ne0
unfolding ev node_by
eval_with-returns-then-a-ne0 t c = alt-left _ _ _ (c.round-a-in-3.ensures ∙ ap
    (λ (i : ℕ). ev c.args.s.now
    c.args.cells.now
    c.args.n
    (tree_of c.args.t.now i)
    c.args.p) c.part-y.ensures)
    c.if-a-ne0.true ∙ node-ev c.args.s.now
    c.args.cells.now
    c.args.t.now
    c.args.n
    c.args.x
    c.args.p 3 c.left-l.result
    c.if-x-eq0.false (sym c.in-3.is ∙ c.op-op.ensures.0)
    c.left-l.ensures.0

pub eval_with-returns-then-a-eq0-2 : goal.eval_with-returns-then-a-eq0-2
unfolding ev node_by
eval_with-returns-then-a-eq0-2 t c = opt-fails _ _ (c.round-a-in-4.ensures ∙ ap
    (λ (i : ℕ). ev c.args.s.now
    c.args.cells.now
    c.args.n
    (tree_of c.args.t.now i)
    c.args.p) c.part-y.ensures)
    c.if-a-eq0-2.true ∙ node-ev c.args.s.now
    c.args.cells.now
    c.args.t.now
    c.args.n
    c.args.x
    c.args.p 4 c.left-l.result
    c.if-x-eq0.false (sym c.in-4.is ∙ c.op-op.ensures.0)
    c.left-l.ensures.0

pub eval_with-returns-then-a-le1 : goal.eval_with-returns-then-a-le1
unfolding ev node_by
eval_with-returns-then-a-le1 t c = plus-ends (λ (q : ℕ). ev c.args.s.now
    c.args.cells.now
    c.args.n
    (tree_of c.args.t.now
    (below c.left-l.result (c.args.x - 1))) q)
    (length c.args.s.now)
    c.args.p _
    (c.round-a-in-6.ensures ∙ ap (λ (i : ℕ). ev c.args.s.now
    c.args.cells.now
    c.args.n
    (tree_of c.args.t.now i)
    c.args.p) c.part-y.ensures)
    c.if-a-le1.true ∙ node-ev c.args.s.now
    c.args.cells.now
    c.args.t.now
    c.args.n
    c.args.x
    c.args.p 6 c.left-l.result
    c.if-x-eq0.false (sym c.in-6.is ∙ c.op-op.ensures.0)
    c.left-l.ensures.0

pub eval_with-returns-then-a-eq0-3 : goal.eval_with-returns-then-a-eq0-3
unfolding ev node_by
eval_with-returns-then-a-eq0-3 t c = ahead-fails _ _ (c.round-a-in-7.ensures ∙ ap
    (λ (i : ℕ). ev c.args.s.now
    c.args.cells.now
    c.args.n
    (tree_of c.args.t.now i)
    c.args.p) c.part-y.ensures)
    c.if-a-eq0-3.true ∙ node-ev c.args.s.now
    c.args.cells.now
    c.args.t.now
    c.args.n
    c.args.x
    c.args.p 7 c.left-l.result
    c.if-x-eq0.false (sym c.in-7.is ∙ c.op-op.ensures.0)
    c.left-l.ensures.0

pub eval_with-returns-then-a-eq0-4 : goal.eval_with-returns-then-a-eq0-4
unfolding ev
eval_with-returns-then-a-eq0-4 t c = never-takes _ _ (c.round-a-in_default.ensures ∙ ap
    (λ (i : ℕ). ev c.args.s.now
    c.args.cells.now
    c.args.n
    (tree_of c.args.t.now i)
    c.args.p) c.part-y.ensures) c.if-a-eq0-4.true ∙ ap
    (λ (y : Exp ℕ). ev c.args.s.now
    c.args.cells.now
    c.args.n y
    c.args.p)
    (node-never c.op-op.result c.left-l.result
    (right_of c.args.t.now
    (c.args.x - 1))
    (leaf_in c.args.t.now)
    (λ i. tree_of c.args.t.now
    (below i (c.args.x - 1))) c.in_default.in_default-own.rest.0.0.0.0.0.0.0.1
    c.in_default.in_default-own.rest.0.0.0.0.0.0.1 c.in_default.in_default-own.rest.0.0.0.0.0.1 c.in_default.in_default-own.rest.0.0.0.0.1
    c.in_default.in_default-own.rest.0.0.0.1 c.in_default.in_default-own.rest.0.0.1 c.in_default.in_default-own.rest.0.1 c.in_default.in_default-own.rest.1) ∙ node-ev
    c.args.s.now
    c.args.cells.now
    c.args.t.now
    c.args.n
    c.args.x
    c.args.p c.op-op.result
    c.left-l.result c.if-x-eq0.false c.op-op.ensures.0
    c.left-l.ensures.0

pub eval_with-returns-in-0 : goal.eval_with-returns-in-0
unfolding ev node_by
eval_with-returns-in-0 t c = c.leaf_at.ensures ∙ node-ev c.args.s.now
    c.args.cells.now
    c.args.t.now
    c.args.n
    c.args.x
    c.args.p 0 c.left-l.result
    c.if-x-eq0.false (sym
    c.in-0.is ∙ c.op-op.ensures.0) c.left-l.ensures.0

pub eval_with-returns-in-1 : goal.eval_with-returns-in-1
unfolding ev node_by
eval_with-returns-in-1 t c = c.cell_at.ensures ∙ node-ev c.args.s.now
    c.args.cells.now
    c.args.t.now
    c.args.n
    c.args.x
    c.args.p 1 c.left-l.result
    c.if-x-eq0.false (sym c.in-1.is ∙ c.op-op.ensures.0)
    c.left-l.ensures.0

pub eval_with-returns-else-b-eq0 : goal.eval_with-returns-else-b-eq0
unfolding ev node_by
eval_with-returns-else-b-eq0 t c = seq-both _ _ _ _ (c.round-a.ensures ∙ ap
    (λ (i : ℕ). ev c.args.s.now
    c.args.cells.now
    c.args.n
    (tree_of c.args.t.now i)
    c.args.p)
    c.part-y.ensures) c.if-a-eq0.false
    (c.round-b.ensures ∙ ap (λ (i : ℕ). ev
    c.args.s.now
    c.args.cells.now
    c.args.n (tree_of
    c.args.t.now i)
    (c.args.p +
    (c.round-a.result - 1))) (c.part-z.ensures ∙ ap (λ (j : ℕ). below j
    (c.args.x - 1))
    c.right-r.ensures.0)) c.if-b-eq0.false ∙ node-ev
    c.args.s.now
    c.args.cells.now
    c.args.t.now
    c.args.n
    c.args.x
    c.args.p 2
    c.left-l.result
    c.if-x-eq0.false (sym
    c.in-2.is
    ∙ c.op-op.ensures.0)
    c.left-l.ensures.0

pub eval_with-returns-else-a-ne0 : goal.eval_with-returns-else-a-ne0
unfolding ev node_by
eval_with-returns-else-a-ne0 t c = alt-right _ _ _ _ (c.round-a-in-3.ensures ∙ ap
    (λ (i : ℕ). ev c.args.s.now
    c.args.cells.now
    c.args.n
    (tree_of c.args.t.now i)
    c.args.p)
    c.part-y.ensures) c.if-a-ne0.false
    (c.round.ensures ∙ ap (λ (i : ℕ). ev c.args.s.now
    c.args.cells.now
    c.args.n
    (tree_of c.args.t.now i)
    c.args.p)
    (c.part-z-in-3.ensures ∙ ap (λ (j : ℕ). below j (c.args.x
    - 1)) c.right-r-in-3.ensures.0)) ∙ node-ev
    c.args.s.now
    c.args.cells.now
    c.args.t.now
    c.args.n
    c.args.x
    c.args.p 3
    c.left-l.result
    c.if-x-eq0.false
    (sym c.in-3.is ∙ c.op-op.ensures.0)
    c.left-l.ensures.0

pub eval_with-returns-else-a-eq0-2 : goal.eval_with-returns-else-a-eq0-2
unfolding ev node_by
eval_with-returns-else-a-eq0-2 t c = opt-takes _ _ (c.round-a-in-4.ensures ∙ ap
    (λ (i : ℕ). ev c.args.s.now
    c.args.cells.now
    c.args.n
    (tree_of c.args.t.now i)
    c.args.p) c.part-y.ensures)
    c.if-a-eq0-2.false ∙ node-ev c.args.s.now
    c.args.cells.now
    c.args.t.now
    c.args.n
    c.args.x
    c.args.p 4 c.left-l.result
    c.if-x-eq0.false (sym c.in-4.is ∙ c.op-op.ensures.0)
    c.left-l.ensures.0

pub eval_with-returns-in-5 : goal.eval_with-returns-in-5
unfolding ev node_by
eval_with-returns-in-5 t c = add-one _ ∙ ap suc (c.many.ensures ∙ ap
    (λ (i : ℕ). rep (length c.args.s.now)
    (λ (q : ℕ). ev c.args.s.now
    c.args.cells.now
    c.args.n
    (tree_of c.args.t.now i) q)
    c.args.p) c.part-y.ensures) ∙ node-ev
    c.args.s.now
    c.args.cells.now
    c.args.t.now
    c.args.n
    c.args.x
    c.args.p 5 c.left-l.result
    c.if-x-eq0.false (sym c.in-5.is ∙ c.op-op.ensures.0)
    c.left-l.ensures.0

pub eval_with-returns-else-a-le1 : goal.eval_with-returns-else-a-le1
unfolding ev node_by
eval_with-returns-else-a-le1 t c = plus-takes _ _ _ _ (c.round-a-in-6.ensures ∙ ap
    (λ (i : ℕ). ev c.args.s.now
    c.args.cells.now
    c.args.n
    (tree_of c.args.t.now i)
    c.args.p) c.part-y.ensures)
    (λ z. omega (arith, z, c.if-a-le1.false)) (c.many-else-a-le1.ensures ∙ ap
    (λ (i : ℕ). rep (length c.args.s.now)
    (λ (q : ℕ). ev c.args.s.now
    c.args.cells.now
    c.args.n
    (tree_of c.args.t.now i) q)
    (c.args.p + (c.round-a-in-6.result - 1)))
    c.part-y.ensures) ∙ node-ev
    c.args.s.now
    c.args.cells.now
    c.args.t.now
    c.args.n
    c.args.x
    c.args.p 6 c.left-l.result
    c.if-x-eq0.false (sym c.in-6.is ∙ c.op-op.ensures.0)
    c.left-l.ensures.0

pub eval_with-returns-else-a-eq0-3 : goal.eval_with-returns-else-a-eq0-3
unfolding ev node_by
eval_with-returns-else-a-eq0-3 t c = ahead-takes _ _ (c.round-a-in-7.ensures ∙ ap
    (λ (i : ℕ). ev c.args.s.now
    c.args.cells.now
    c.args.n
    (tree_of c.args.t.now i)
    c.args.p) c.part-y.ensures)
    c.if-a-eq0-3.false ∙ node-ev c.args.s.now
    c.args.cells.now
    c.args.t.now
    c.args.n
    c.args.x
    c.args.p 7 c.left-l.result
    c.if-x-eq0.false (sym c.in-7.is ∙ c.op-op.ensures.0)
    c.left-l.ensures.0

pub eval_with-returns-else-a-eq0-4 : goal.eval_with-returns-else-a-eq0-4
unfolding ev
eval_with-returns-else-a-eq0-4 t c = never-fails _ _ (c.round-a-in_default.ensures ∙ ap
    (λ (i : ℕ). ev c.args.s.now
    c.args.cells.now
    c.args.n
    (tree_of c.args.t.now i)
    c.args.p) c.part-y.ensures) c.if-a-eq0-4.false ∙ ap
    (λ (y : Exp ℕ). ev c.args.s.now
    c.args.cells.now
    c.args.n y
    c.args.p)
    (node-never c.op-op.result c.left-l.result
    (right_of c.args.t.now
    (c.args.x - 1))
    (leaf_in c.args.t.now)
    (λ i. tree_of c.args.t.now
    (below i (c.args.x - 1))) c.in_default.in_default-own.rest.0.0.0.0.0.0.0.1
    c.in_default.in_default-own.rest.0.0.0.0.0.0.1 c.in_default.in_default-own.rest.0.0.0.0.0.1 c.in_default.in_default-own.rest.0.0.0.0.1
    c.in_default.in_default-own.rest.0.0.0.1 c.in_default.in_default-own.rest.0.0.1 c.in_default.in_default-own.rest.0.1 c.in_default.in_default-own.rest.1) ∙ node-ev
    c.args.s.now
    c.args.cells.now
    c.args.t.now
    c.args.n
    c.args.x
    c.args.p c.op-op.result
    c.left-l.result c.if-x-eq0.false c.op-op.ensures.0
    c.left-l.ensures.0

-- rounds from p on that go to q end there with one that fails or takes nothing
ends : (t s cs : List ℕ) (n x p q a : ℕ) → p ≤ q → q + rounds_of t s cs n x q ≡ p + rounds_of t s cs n x p → a ≡ ev s cs n (tree_of t x) q → a ≤ 1
    → q - p ≡ rounds_of t s cs n x p
ends t s cs n x p q a l r e h = omega (arith, r, rep-ends (λ (i : ℕ). ev s cs n (tree_of t x) i) (length s) q a e h)

-- and go on with any other
goes : (t s cs : List ℕ) (n x p q a : ℕ) → p ≤ q → q ≤ length s → q + rounds_of t s cs n x q ≡ p + rounds_of t s cs n x p → a ≡ ev s cs n (tree_of t x) q → 1 < a
    → (p ≤ q + (a - 1)) × (q + (a - 1) ≤ length s) × (q + (a - 1) + rounds_of t s cs n x (q + (a - 1)) ≡ p + rounds_of t s cs n x p)
goes t s cs n x p q a l m r e h =
    (omega arith, omega (arith, e, ev-within s cs n (tree_of t x) q m), omega (arith, r, rounds-next t s cs n x q a m e h))

pub eval_with-overflow_add-p : goal.eval_with-overflow_add-p
eval_with-overflow_add-p t c = omega (
  arith,
  ev-within c.args.s.now
      c.args.cells.now
      c.args.n
      (tree_of c.args.t.now
      c.part-y.result)
      c.args.p
      (omega (arith, c.requires.0)),
  c.round-a.ensures,
  c.requires.0,
)

pub eval_with-round-b-requires : goal.eval_with-round-b-requires
eval_with-round-b-requires t c = (
  omega (
    arith,
    below-le c.right-r.result
        (c.args.x - 1),
    c.part-z.ensures,
    c.if-x-eq0.false,
    ev-within
        c.args.s.now
        c.args.cells.now
        c.args.n
        (tree_of c.args.t.now
        c.part-y.result)
        c.args.p
        (omega (arith, c.requires.0)),
    c.round-a.ensures,
    c.if-a-eq0.false,
    c.decreases,
    c.requires.0,
  ),
  (
    omega (
      arith,
      below-le c.right-r.result (c.args.x - 1),
      c.part-z.ensures,
      c.if-x-eq0.false,
      ev-within
          c.args.s.now
          c.args.cells.now
          c.args.n
          (tree_of c.args.t.now
          c.part-y.result)
          c.args.p
          (omega (arith, c.requires.0)),
      c.round-a.ensures,
      c.if-a-eq0.false,
      c.decreases,
      c.requires.0,
    ),
    knows-from
        c.args.t.now
        c.args.s.now
        c.args.cells.now
        c.args.mem.now
        c.args.n 0 0
        c.args.p
        (c.args.p + (c.round-a.result - 1))
        (omega arith) (omega arith) c.requires.1,
  ),
)

pub eval_with-overflow_add-result : goal.eval_with-overflow_add-result
eval_with-overflow_add-result t c = omega (
  arith,
  ev-within
      c.args.s.now
      c.args.cells.now
      c.args.n (tree_of
      c.args.t.now
      c.part-y.result)
      c.args.p (omega
      (arith, c.requires.0)),
  c.round-a.ensures,
  ev-within
      c.args.s.now
      c.args.cells.now
      c.args.n (tree_of
      c.args.t.now
      c.part-z.result)
      (c.args.p +
      (c.round-a.result - 1)) (omega (
        arith,
        ev-within
            c.args.s.now
            c.args.cells.now
            c.args.n (tree_of
            c.args.t.now
            c.part-y.result)
            c.args.p (omega
            (arith, c.requires.0)),
        c.round-a.ensures,
        c.requires.0,
      )),
  c.round-b.ensures,
  c.requires.0,
)

pub eval_with-overflow_add-result-in-5 : goal.eval_with-overflow_add-result-in-5
eval_with-overflow_add-result-in-5 t c = omega (
  arith,
  rounds-within c.args.s.now
      c.args.cells.now
      c.args.t.now
      c.args.n c.part-y.result
      c.args.p
      (omega (arith, c.requires.0)),
  c.many.ensures,
  c.requires.0,
)

pub eval_with-overflow_add-p-else-a-le1 : goal.eval_with-overflow_add-p-else-a-le1
eval_with-overflow_add-p-else-a-le1 t c = omega (
  arith,
  ev-within c.args.s.now
      c.args.cells.now
      c.args.n
      (tree_of c.args.t.now c.part-y.result)
      c.args.p
      (omega (arith, c.requires.0)),
  c.round-a-in-6.ensures,
  c.requires.0,
)

pub eval_with-many-requires-else-a-le1 : goal.eval_with-many-requires-else-a-le1
eval_with-many-requires-else-a-le1 t c = (
  omega (
    arith,
    below-le c.left-l.result
        (c.args.x - 1),
    c.part-y.ensures,
    c.if-x-eq0.false,
    ev-within
        c.args.s.now
        c.args.cells.now
        c.args.n
        (tree_of c.args.t.now c.part-y.result)
        c.args.p
        (omega (arith, c.requires.0)),
    c.round-a-in-6.ensures,
    c.if-a-le1.false,
    c.decreases,
    c.requires.0,
  ),
  (
    omega (
      arith,
      below-le c.left-l.result
          (c.args.x - 1),
      c.part-y.ensures,
      c.if-x-eq0.false,
      ev-within
          c.args.s.now
          c.args.cells.now
          c.args.n
          (tree_of c.args.t.now c.part-y.result)
          c.args.p
          (omega (arith, c.requires.0)),
      c.round-a-in-6.ensures,
      c.if-a-le1.false,
      c.decreases,
      c.requires.0,
    ),
    knows-from
        c.args.t.now
        c.args.s.now
        c.args.cells.now
        c.args.mem.now
        c.args.n 0 0
        c.args.p
        (c.args.p + (c.round-a-in-6.result - 1)) (omega arith) (omega arith)
        c.requires.1,
  ),
)

pub eval_with-overflow_add-result-else-a-le1 : goal.eval_with-overflow_add-result-else-a-le1
eval_with-overflow_add-result-else-a-le1 t c = omega (
  arith,
  ev-within c.args.s.now
      c.args.cells.now
      c.args.n
      (tree_of c.args.t.now
      c.part-y.result) c.args.p
      (omega (arith, c.requires.0)),
  c.round-a-in-6.ensures,
  rounds-within
      c.args.s.now
      c.args.cells.now
      c.args.t.now
      c.args.n c.part-y.result
      (c.args.p + (c.round-a-in-6.result - 1))
      (omega (
        arith,
        ev-within c.args.s.now
            c.args.cells.now
            c.args.n
            (tree_of c.args.t.now
            c.part-y.result) c.args.p
            (omega (arith, c.requires.0)),
        c.round-a-in-6.ensures,
        c.requires.0,
      )),
  c.many-else-a-le1.ensures,
  c.requires.0,
)

pub many-returns-then-w-eq1 : goal.many-returns-then-w-eq1
many-returns-then-w-eq1 t c =
    ends c.args.t.now c.args.s.now c.args.cells.now c.args.n c.args.x c.args.p c.loop-n.q (c.said-w.result - 1) c.loop-n.invariant.0 c.loop-n.invariant.2
    (said-right c.args.t.now c.args.s.now c.args.cells.now c.args.mem.now c.args.n 0 c.loop-n.q
    (knows-from c.args.t.now c.args.s.now c.args.cells.now c.args.mem.now c.args.n 0 0 c.args.p c.loop-n.q (omega arith) c.loop-n.invariant.0 c.requires.1) c.args.x
    c.byte_at-b.result c.said-w.result c.loop-n.invariant.1 c.byte_at-b.ensures.0 c.said-w.ensures (λ z. omega (arith, z))) (omega arith)

pub many-eval_with-a-requires : goal.many-eval_with-a-requires
many-eval_with-a-requires t c = (
  omega arith,
  (
    omega arith,
    knows-from c.args.t.now c.args.s.now c.args.cells.now c.args.mem.now c.args.n 0 0 c.args.p c.loop-n.q (omega arith) c.loop-n.invariant.0 c.requires.1,
  ),
)

pub many-returns-then-a-le1 : goal.many-returns-then-a-le1
many-returns-then-a-le1 t c =
    let h : c.if-w-eq0.a ≡ ev c.args.s.now c.args.cells.now c.args.n (tree_of c.args.t.now c.args.x) c.loop-n.q =
    elim c.if-w-eq0.branch [
      | many-then-w-eq0 w ↦ w.a-is ∙ w.eval_with-a.ensures
      | many-else-w-eq0 w ↦ w.a-is ∙ said-right c.args.t.now c.args.s.now c.args.cells.now c.args.mem.now c.args.n 0 c.loop-n.q
          (knows-from c.args.t.now c.args.s.now c.args.cells.now c.args.mem.now c.args.n 0 0 c.args.p c.loop-n.q (omega arith) c.loop-n.invariant.0 c.requires.1)
          c.args.x c.byte_at-b.result c.said-w.result c.loop-n.invariant.1 c.byte_at-b.ensures.0 c.said-w.ensures w.if-w-eq0.false
    ] in
    ends c.args.t.now c.args.s.now c.args.cells.now c.args.n c.args.x c.args.p c.loop-n.q c.if-w-eq0.a c.loop-n.invariant.0 c.loop-n.invariant.2 h c.if-a-le1.true

pub many-overflow_add-q : goal.many-overflow_add-q
many-overflow_add-q t c =
    let h : c.if-w-eq0.a ≡ ev c.args.s.now c.args.cells.now c.args.n (tree_of c.args.t.now c.args.x) c.loop-n.q =
    elim c.if-w-eq0.branch [
      | many-then-w-eq0 w ↦ w.a-is ∙ w.eval_with-a.ensures
      | many-else-w-eq0 w ↦ w.a-is ∙ said-right c.args.t.now c.args.s.now c.args.cells.now c.args.mem.now c.args.n 0 c.loop-n.q
          (knows-from c.args.t.now c.args.s.now c.args.cells.now c.args.mem.now c.args.n 0 0 c.args.p c.loop-n.q (omega arith) c.loop-n.invariant.0 c.requires.1)
          c.args.x c.byte_at-b.result c.said-w.result c.loop-n.invariant.1 c.byte_at-b.ensures.0 c.said-w.ensures w.if-w-eq0.false
    ] in
    omega (arith, goes c.args.t.now c.args.s.now c.args.cells.now c.args.n c.args.x c.args.p c.loop-n.q c.if-w-eq0.a c.loop-n.invariant.0 c.loop-n.invariant.1 c.loop-n.invariant.2 h (omega arith))

pub many-loop-n-smaller : goal.many-loop-n-smaller
many-loop-n-smaller t c =
    let h : c.if-w-eq0.a ≡ ev c.args.s.now c.args.cells.now c.args.n (tree_of c.args.t.now c.args.x) c.loop-n.q =
    elim c.if-w-eq0.branch [
      | many-then-w-eq0 w ↦ w.a-is ∙ w.eval_with-a.ensures
      | many-else-w-eq0 w ↦ w.a-is ∙ said-right c.args.t.now c.args.s.now c.args.cells.now c.args.mem.now c.args.n 0 c.loop-n.q
          (knows-from c.args.t.now c.args.s.now c.args.cells.now c.args.mem.now c.args.n 0 0 c.args.p c.loop-n.q (omega arith) c.loop-n.invariant.0 c.requires.1)
          c.args.x c.byte_at-b.result c.said-w.result c.loop-n.invariant.1 c.byte_at-b.ensures.0 c.said-w.ensures w.if-w-eq0.false
    ] in
    omega (arith, goes c.args.t.now c.args.s.now c.args.cells.now c.args.n c.args.x c.args.p c.loop-n.q c.if-w-eq0.a c.loop-n.invariant.0 c.loop-n.invariant.1 c.loop-n.invariant.2 h (omega arith))

pub many-loop-n-preserved : goal.many-loop-n-preserved
many-loop-n-preserved t c =
    let h : c.if-w-eq0.a ≡ ev c.args.s.now c.args.cells.now c.args.n (tree_of c.args.t.now c.args.x) c.loop-n.q =
    elim c.if-w-eq0.branch [
      | many-then-w-eq0 w ↦ w.a-is ∙ w.eval_with-a.ensures
      | many-else-w-eq0 w ↦ w.a-is ∙ said-right c.args.t.now c.args.s.now c.args.cells.now c.args.mem.now c.args.n 0 c.loop-n.q
          (knows-from c.args.t.now c.args.s.now c.args.cells.now c.args.mem.now c.args.n 0 0 c.args.p c.loop-n.q (omega arith) c.loop-n.invariant.0 c.requires.1)
          c.args.x c.byte_at-b.result c.said-w.result c.loop-n.invariant.1 c.byte_at-b.ensures.0 c.said-w.ensures w.if-w-eq0.false
    ] in
    goes c.args.t.now c.args.s.now c.args.cells.now c.args.n c.args.x c.args.p c.loop-n.q c.if-w-eq0.a c.loop-n.invariant.0 c.loop-n.invariant.1 c.loop-n.invariant.2 h (omega arith)

pub round-returns-else-w-eq0 : goal.round-returns-else-w-eq0
round-returns-else-w-eq0 t c =
    said-right c.args.t.now c.args.s.now c.args.cells.now c.args.mem.now c.args.n 0 c.args.p c.requires.1 c.args.x
    c.byte_at-b.result c.said-w.result (omega arith) c.byte_at-b.ensures.0 c.said-w.ensures c.if-w-eq0.false
