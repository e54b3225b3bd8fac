use native.Mathlib.Omega.{arith}
use mathlib.Core.List.{List}
use mathlib.Core.Path.{◌≡◌}
use Prim.Native.Nat.{◌-◌}
use Rattle.match_cells.specs.Cells.{row_of}
use Rattle.match_eval.specs.steps.Memory.{Knows, Front}
use native.Mathlib.Nat.{mul-le-mul}
use Prim.Native.Nat.{ℕ, ◌+◌, ◌*◌, ◌≤◌, ◌<◌}
use mathlib.Core.Path.{refl, sym, ap, subst, ◌∙◌}
use lib.ListN.{length, length-set}
use Rattle.grammar_table.specs.Table.{symbol_word, words_from}
use Rattle.grammar_table.specs.Trees.{tree_of, bodies_of}
use Rattle.match_eval.proofs.laws.Within.{ev-within}
use Rattle.match_eval.proofs.laws.Memory.{knows-from}
use Rattle.match_cells.specs.laws.Tasks.{body-found, part-found, stored-knows, stored_row, tasks-start, tasks-past, tasks-end}
use Rattle.match_cells.proofs.tasks.tasks.Goals as goal
use Rattle.match_cells.proofs.tasks.tasks.Goals.{then-j-m, else-j-m}

pub loop-j-init : goal.loop-j-init
loop-j-init c = (
  omega arith,
  refl,
  tasks-start c.args.t.now c.args.s.now c.args.job.p c.args.plan.now c.args.job.i
      c.args.job.m c.args.cells.now,
  knows-from c.args.t.now c.args.s.now c.args.cells.now c.args.mem.now c.args.job.n
      (c.args.job.p + 1) c.args.job.p c.args.job.p c.args.job.p (omega arith) (omega arith)
      c.requires.4,
  (λ l. c.requires.4),
  (λ j l. refl),
)

pub list_at-v-requires : goal.list_at-v-requires
list_at-v-requires c = (
  (
    c.requires.0.1,
    c.word-at.ensures.1,
    c.requires.0.5,
    c.requires.0.6,
  ),
  knows-from c.args.t.now
      c.args.s.now c.loop-j.cells
      c.loop-j.mem c.args.job.n
      c.args.job.p 0
      c.args.job.p
      c.args.job.p (omega arith) (omega arith)
      c.loop-j.invariant.3,
)

pub overflow_mul-p : goal.overflow_mul-p
overflow_mul-p c = let h : c.args.job.p *
    c.args.job.n ≤ 65535 * 64 = mul-le-mul {n₂ = 65535} {m₂ = 64} (omega
    (arith, c.requires.0))
    c.requires.0.1 in omega (arith, h)

pub overflow_add-p : goal.overflow_add-p
overflow_add-p c = let h : c.args.job.p *
    c.args.job.n ≤ 65535 * 64 = mul-le-mul {n₂ = 65535} {m₂ = 64} (omega
    (arith, c.requires.0))
    c.requires.0.1 in omega
    (arith, h, c.word-w.ensures.1)

pub put-requires : goal.put-requires
put-requires c = omega (
  arith,
  ev-within c.args.s.now
      c.loop-j.cells
      c.args.job.n (tree_of
      c.args.t.now (symbol_word
      c.args.t.now
      c.word-w.result 1))
      c.args.job.p
      c.requires.0.6,
  body-found
      c.args.t.now
      c.args.s.now
      c.loop-j.cells
      c.args.lists.now
      c.args.job.n
      c.args.job.p
      c.word-w.result c.word-at.result c.list_at-v.result
      c.word-at.ensures.0 c.list_at-v.ensures
      c.args.mem.now
      c.requires.3 (subst (λ (x : ℕ). x <
      c.args.job.n) (sym
      c.word-w.ensures.0)
      (c.requires.1
      c.loop-j.j (omega
      (arith, c.if-j-m.true)))),
  c.requires.0,
)

pub overflow_sub-w : goal.overflow_sub-w
overflow_sub-w c = omega (
  arith,
  c.word-w.ensures.0,
  c.requires.2 c.loop-j.j (omega (arith, c.if-j-m.false))
      c.loop-j-test.true,
)

pub overflow_add-w : goal.overflow_add-w
overflow_add-w c = omega (arith, c.word-w.ensures.1)

pub learn_first-requires : goal.learn_first-requires
learn_first-requires c = (
  (
    c.requires.0.1,
    c.word-y.ensures.1,
    c.requires.0.5,
    c.requires.0.6,
    part-found
        c.args.t.now
        c.args.s.now
        c.loop-j.cells
        c.args.lists.now
        c.args.job.n
        c.args.job.p
        c.word-w.result
        c.word-at.result c.list_at-v.result
        c.word-at.ensures.0 c.list_at-v.ensures
        c.args.mem.now
        c.loop-j.mem c.word-y.result
        c.requires.3
        c.loop-j.invariant.5 (omega (
          arith,
          c.word-w.ensures.0,
          c.requires.2
              c.loop-j.j (omega
              (arith, c.if-j-m.false))
              c.loop-j-test.true,
        )) (omega (
          arith,
          c.word-w.ensures.0,
          c.requires.2
              c.loop-j.j (omega
              (arith, c.if-j-m.false))
              c.loop-j-test.true,
        ))
        c.word-y.ensures.0,
  ),
  c.loop-j.invariant.3,
)

pub returns : goal.returns
returns c = (
  tasks-end c.args.t.now c.args.s.now c.args.job.p
      c.args.plan.now c.args.job.i c.loop-j.j c.args.job.m
      c.loop-j.cells (omega (arith, c.loop-j-test.false, c.requires.0)) ∙ c.loop-j.invariant.2,
  c.loop-j.invariant.3,
  c.loop-j.invariant.5,
)

-- what holds behind a task, of the cells and the memory as it leaves them
abbrev Kept : List ℕ → List ℕ → List ℕ → ℕ → ℕ → ℕ → ℕ → ℕ → ℕ → List ℕ → List ℕ → List ℕ → List ℕ → Type 0
Kept t s plan n p i m k j first old cells mem =
    (j ≤ k) × (length cells ≡ length first)
    × (row_of (bodies_of t) s p (words_from plan (i + j) (i + m - (i + j))) cells ≡ row_of (bodies_of t) s p (words_from plan i m) first)
    × Knows t s cells n mem p p × (j ≤ m → Knows t s cells n mem (p + 1) p) × Front old mem

pub loop-j-preserved : goal.loop-j-preserved
loop-j-preserved c =
    elim c.if-j-m.branch [
      | then-j-m w ↦
          let kept : Kept c.args.t.now c.args.s.now c.args.plan.now c.args.job.n c.args.job.p c.args.job.i c.args.job.m c.args.job.k (c.loop-j.j + 1) c.args.cells.now
          c.args.mem.now w.put.new.a c.loop-j.mem = (
            omega (arith, c.loop-j-test.true),
            ap length w.put.ensures ∙ length-set
                c.loop-j.cells _ _ ∙ c.loop-j.invariant.1,
            stored_row c.args.t.now
                c.args.s.now
                c.args.job.n
                c.args.job.p
                c.requires.0.0
                c.requires.0.6
                c.loop-j.cells _
                c.word-w.result c.list_at-v.result (subst (λ (x : ℕ). x <
                c.args.job.n) (sym
                c.word-w.ensures.0)
                (c.requires.1
                c.loop-j.j (omega
                (arith, w.if-j-m.true)))) (body-found
                c.args.t.now
                c.args.s.now
                c.loop-j.cells
                c.args.lists.now
                c.args.job.n
                c.args.job.p
                c.word-w.result c.word-at.result
                c.list_at-v.result c.word-at.ensures.0
                c.list_at-v.ensures
                c.args.mem.now
                c.requires.3 (subst (λ (x : ℕ). x <
                c.args.job.n) (sym
                c.word-w.ensures.0)
                (c.requires.1
                c.loop-j.j (omega
                (arith, w.if-j-m.true))))) w.put.ensures
                c.args.plan.now
                c.args.job.i
                c.loop-j.j
                c.args.job.m (omega
                (arith, w.if-j-m.true))
                c.word-w.ensures.0 ∙ c.loop-j.invariant.2,
            knows-from c.args.t.now
                c.args.s.now _
                c.loop-j.mem
                c.args.job.n
                (c.args.job.p + 1)
                c.args.job.p
                c.args.job.p
                c.args.job.p (omega arith) (omega arith)
                (stored-knows c.args.t.now
                c.args.s.now
                c.args.job.n
                c.args.job.p
                c.requires.0.0
                c.requires.0.6
                c.loop-j.cells _
                c.word-w.result c.list_at-v.result (subst (λ (x : ℕ). x <
                c.args.job.n) (sym
                c.word-w.ensures.0)
                (c.requires.1
                c.loop-j.j (omega
                (arith, w.if-j-m.true)))) (body-found
                c.args.t.now
                c.args.s.now
                c.loop-j.cells
                c.args.lists.now
                c.args.job.n
                c.args.job.p
                c.word-w.result c.word-at.result
                c.list_at-v.result c.word-at.ensures.0
                c.list_at-v.ensures
                c.args.mem.now
                c.requires.3 (subst (λ (x : ℕ). x <
                c.args.job.n) (sym
                c.word-w.ensures.0)
                (c.requires.1
                c.loop-j.j (omega
                (arith, w.if-j-m.true))))) w.put.ensures
                c.loop-j.mem
                (c.loop-j.invariant.4 (omega
                (arith, w.if-j-m.true)))),
            (λ l. stored-knows c.args.t.now
                c.args.s.now
                c.args.job.n
                c.args.job.p
                c.requires.0.0
                c.requires.0.6
                c.loop-j.cells _
                c.word-w.result c.list_at-v.result (subst (λ (x : ℕ). x <
                c.args.job.n) (sym
                c.word-w.ensures.0)
                (c.requires.1
                c.loop-j.j (omega
                (arith, w.if-j-m.true)))) (body-found
                c.args.t.now
                c.args.s.now
                c.loop-j.cells
                c.args.lists.now
                c.args.job.n
                c.args.job.p
                c.word-w.result c.word-at.result
                c.list_at-v.result c.word-at.ensures.0
                c.list_at-v.ensures
                c.args.mem.now
                c.requires.3 (subst (λ (x : ℕ). x <
                c.args.job.n) (sym
                c.word-w.ensures.0)
                (c.requires.1
                c.loop-j.j (omega
                (arith, w.if-j-m.true))))) w.put.ensures
                c.loop-j.mem
                (c.loop-j.invariant.4 (omega
                (arith, w.if-j-m.true)))),
            c.loop-j.invariant.5,
          ) in
          subst (λ (v : List ℕ). Kept c.args.t.now c.args.s.now c.args.plan.now c.args.job.n c.args.job.p c.args.job.i c.args.job.m c.args.job.k (c.loop-j.j + 1) c.args.cells.now
          c.args.mem.now v c.if-j-m.mem) (sym w.cells-is) (subst (λ (v : List ℕ). Kept c.args.t.now c.args.s.now c.args.plan.now c.args.job.n c.args.job.p c.args.job.i
          c.args.job.m c.args.job.k (c.loop-j.j + 1) c.args.cells.now c.args.mem.now w.put.new.a v) (sym w.mem-is) kept)
      | else-j-m w ↦
          let kept : Kept c.args.t.now c.args.s.now c.args.plan.now c.args.job.n c.args.job.p c.args.job.i c.args.job.m c.args.job.k (c.loop-j.j + 1) c.args.cells.now
          c.args.mem.now c.loop-j.cells w.learn_first.new.mem = (
            omega (arith, c.loop-j-test.true),
            c.loop-j.invariant.1,
            tasks-past c.args.t.now
                c.args.s.now
                c.args.job.p
                c.args.plan.now
                c.args.job.i
                c.loop-j.j
                c.args.job.m
                c.loop-j.cells (omega
                (arith, w.if-j-m.false)) ∙ c.loop-j.invariant.2,
            w.learn_first.ensures.0,
            (λ l. absurd (omega (arith, l, w.if-j-m.false))),
            (λ j l. w.learn_first.ensures.1 j l ∙ c.loop-j.invariant.5 j l),
          ) in
          subst (λ (v : List ℕ). Kept c.args.t.now c.args.s.now c.args.plan.now c.args.job.n c.args.job.p c.args.job.i c.args.job.m c.args.job.k (c.loop-j.j + 1) c.args.cells.now
          c.args.mem.now v c.if-j-m.mem) (sym w.cells-is) (subst (λ (v : List ℕ). Kept c.args.t.now c.args.s.now c.args.plan.now c.args.job.n c.args.job.p c.args.job.i
          c.args.job.m c.args.job.k (c.loop-j.j + 1) c.args.cells.now c.args.mem.now c.loop-j.cells v) (sym w.mem-is) kept)
    ]
