use native.Mathlib.Omega.{arith}
use mathlib.Core.Path.{◌≡◌}
use Prim.Native.Nat.{◌-◌}
use native.Mathlib.Nat.{mul-le-mul}
use mathlib.Core.Path.{refl, sym, ap, subst, ◌∙◌}
use mathlib.Core.List.{List}
use Prim.Native.Nat.{ℕ, ◌+◌, ◌*◌, ◌≤◌, ◌<◌}
use lib.ListN.{length, get_or, set}
use Rattle.grammar_table.specs.Table.{words_from}
use Rattle.grammar_table.specs.Trees.{bodies_of}
use Rattle.lake_plain.specs.Calls.{holds}
use Rattle.match_cells.specs.Cells.{body_takes, row_of}
use Rattle.match_eval.specs.steps.Firsts.{word_of, preset_of}
use Rattle.match_eval.specs.steps.Memory.{Knows}
use Rattle.match_cells.specs.laws.Preset.{knows-preset, said-stays}
use Rattle.match_cells.specs.laws.Rows.{row_more, row-end, row-start}
use Rattle.match_cells.proofs.filling.place.Goals as goal
use Rattle.match_cells.proofs.filling.place.Goals.{then-has, else-has}

pub overflow_mul-p : goal.overflow_mul-p
overflow_mul-p c = let h : c.args.p * c.args.n ≤ 65535 * 64 = mul-le-mul {n₂ = 65535} {m₂ = 64} (omega
    (arith, c.requires.0.3, c.requires.0.4)) c.requires.0.1 in omega (arith, h)

pub preset-open-requires : goal.preset-open-requires
preset-open-requires c = let h : c.args.p * c.args.n ≤ 65535 * 64 = mul-le-mul {n₂ = 65535} {m₂ = 64} (omega
    (arith, c.requires.0.3, c.requires.0.4)) c.requires.0.1 in
    (c.requires.0.1, omega (arith, h))

pub loop-j-init : goal.loop-j-init
loop-j-init c = (
  omega arith,
  refl,
  row-start c.args.t.now c.args.s.now
      c.args.p c.args.order.now
      c.args.n _,
  subst (λ (v : List ℕ). Knows c.args.t.now
      c.args.s.now v c.args.n
      c.args.mem.now (c.args.p + 1)
      c.args.p) (sym c.preset-open.ensures.0)
      (knows-preset c.args.t.now c.args.s.now
      c.args.cells.now c.args.mem.now
      c.args.n c.args.p
      c.byte_at-b.result c.byte_at-b.ensures.0
      c.requires.0.4 c.requires.1.0
      c.requires.1.1 c.requires.2),
)

pub has-requires : goal.has-requires
has-requires c = omega (
  arith,
  c.word-r.ensures.0,
  c.requires.0.2 c.loop-j.j
      c.loop-j-test.true,
  c.requires.0.1,
)

pub store-requires : goal.store-requires
store-requires c = (
  (
    c.requires.0.0,
    c.requires.0.1,
    subst (λ
        (x : ℕ). x < c.args.n) (sym c.word-r.ensures.0)
        (c.requires.0.2 c.loop-j.j
        c.loop-j-test.true),
    c.requires.0.3,
    c.requires.0.4,
  ),
  c.loop-j.invariant.3,
)

pub returns : goal.returns
returns c = (
  row-end c.args.t.now
      c.args.s.now
      c.args.p
      c.args.order.now c.loop-j.j
      c.args.n c.loop-j.cells c.loop-j-test.false ∙ c.loop-j.invariant.2
      ∙ ap (row_of (bodies_of c.args.t.now)
      c.args.s.now
      c.args.p (words_from
      c.args.order.now 0
      c.args.n)) (c.preset-open.ensures.0
      ∙ ap (λ (b : ℕ). preset_of c.args.t.now
      c.args.mem.now b
      (c.args.p * c.args.n)
      c.args.n
      c.args.cells.now) c.byte_at-b.ensures.0),
  c.loop-j.invariant.3,
)

-- what holds behind a symbol, of the cells as it leaves them
abbrev Kept : List ℕ → List ℕ → List ℕ → List ℕ → ℕ → ℕ → ℕ → List ℕ → List ℕ → Type 0
Kept t s mem order n p j first cells =
    (j ≤ n) × (length cells ≡ length first)
    × (row_of (bodies_of t) s p (words_from order j (n - j)) cells ≡ row_of (bodies_of t) s p (words_from order 0 n) first) × Knows t s cells n mem (p + 1) p

pub loop-j-preserved : goal.loop-j-preserved
loop-j-preserved c =
    elim c.if-has.branch [
      | then-has w ↦
          let kept : Kept c.args.t.now c.args.s.now c.args.mem.now c.args.order.now c.args.n c.args.p (c.loop-j.j + 1) c.preset-open.new.cells w.store.new.cells = (
            omega (arith, c.loop-j-test.true),
            w.store.auto.cells ∙ c.loop-j.invariant.1,
            row_more c.args.t.now
                c.args.s.now
                c.args.p
                c.args.order.now
                c.loop-j.j
                c.args.n
                c.loop-j.cells _ c.loop-j-test.true
                (w.store.ensures.0 ∙ ap (λ (x : ℕ). set c.loop-j.cells
                (c.args.p * length (bodies_of
                c.args.t.now) + x) (body_takes (bodies_of
                c.args.t.now)
                c.args.s.now
                c.loop-j.cells x
                c.args.p))
                c.word-r.ensures.0)
                ∙ c.loop-j.invariant.2,
            w.store.ensures.1,
          ) in
          subst (λ (v : List ℕ). Kept c.args.t.now c.args.s.now c.args.mem.now c.args.order.now c.args.n c.args.p (c.loop-j.j + 1) c.preset-open.new.cells v) (sym w.cells-is) kept
      | else-has w ↦
          let kept : Kept c.args.t.now c.args.s.now c.args.mem.now c.args.order.now c.args.n c.args.p (c.loop-j.j + 1) c.preset-open.new.cells c.loop-j.cells = (
            omega (arith, c.loop-j-test.true),
            c.loop-j.invariant.1,
            row_more c.args.t.now
                c.args.s.now
                c.args.p
                c.args.order.now c.loop-j.j
                c.args.n c.loop-j.cells _
                c.loop-j-test.true
                (said-stays c.args.t.now
                c.args.s.now c.loop-j.cells
                c.args.mem.now
                c.args.n (get_or
                c.args.order.now c.loop-j.j 0)
                c.args.p
                (c.args.p + 1)
                c.requires.0.0
                (c.requires.0.2 c.loop-j.j
                c.loop-j-test.true) c.requires.0.4
                (λ q. c.preset-open.ensures.1 (get_or
                c.args.order.now c.loop-j.j 0)
                (omega arith) (c.requires.0.2 c.loop-j.j
                c.loop-j-test.true)
                (ap (holds c.preset-open.result) (sym c.word-r.ensures.0) ∙ sym c.has.ensures ∙ w.if-has.false)
                (ap (λ (b : ℕ). word_of c.args.t.now
                c.args.mem.now b (get_or
                c.args.order.now c.loop-j.j 0))
                c.byte_at-b.ensures.0 ∙ q))
                c.loop-j.invariant.3) ∙ c.loop-j.invariant.2,
            c.loop-j.invariant.3,
          ) in
          subst (λ (v : List ℕ). Kept c.args.t.now c.args.s.now c.args.mem.now c.args.order.now c.args.n c.args.p (c.loop-j.j + 1) c.preset-open.new.cells v) (sym w.cells-is) kept
    ]
