use native.Mathlib.Omega.{arith}
use native.Mathlib.Nat.{mul-le-mul}
use Prim.Native.Nat.{ℕ, ◌+◌, ◌*◌, ◌≤◌}
use mathlib.Core.Path.{refl, sym, subst, ◌∙◌}
use mathlib.Core.List.{List}
use Rattle.match_eval.specs.steps.Firsts.{byte_at}
use Rattle.match_eval.specs.steps.Memory.{Knows}
use Rattle.match_cells.specs.laws.Preset.{room_at, knows_copy}
use Rattle.match_cells.specs.laws.Tasks.{place-done, takers-left}
use Rattle.match_cells.proofs.tasks.place_by.Goals as goal

pub overflow_mul-p : goal.overflow_mul-p
overflow_mul-p c = let h : c.args.at.p * c.args.at.n ≤ 65535 * 64 = mul-le-mul {n₂ = 65535} {m₂ = 64} (omega
    (arith, c.requires.0.2, c.requires.0.3)) c.requires.0.1 in omega (arith, h)

pub copy_row-requires : goal.copy_row-requires
copy_row-requires c = (
  c.requires.0.1,
  c.requires.1.1.fits,
  room_at c.args.s.now
      c.args.cells.now c.args.at.n c.args.at.p c.requires.0.3
      c.requires.0.4,
)

pub tasks-requires : goal.tasks-requires
tasks-requires c = (
  (
    c.requires.0.0,
    c.requires.0.1,
    omega
        (arith, c.requires.1.1.fits),
    c.word-k.ensures.1,
    omega (
      arith,
      c.word-m.ensures.0,
      c.word-k.ensures.0,
      c.requires.1.1.first,
    ),
    c.requires.0.2,
    c.requires.0.3,
  ),
  (λ j l. c.requires.1.1.below j (omega
      (arith, l, c.word-m.ensures.0))),
  (λ j l h. c.requires.1.1.keys j (omega
      (arith, l, c.word-m.ensures.0)) (omega (arith, h, c.word-k.ensures.0))),
  c.requires.2,
  subst (λ (v : List ℕ). Knows c.args.t.now
      c.args.s.now v
      c.args.at.n
      c.args.mem.now
      (c.args.at.p + 1)
      c.args.at.p) (sym
      c.copy_row.ensures) (knows_copy
      c.args.t.now
      c.args.s.now
      c.args.cells.now
      c.args.mem.now
      c.args.at.n
      c.args.at.p (byte_at
      c.args.s.now
      c.args.at.p) refl
      c.requires.0.3
      c.args.plan.now
      c.requires.1.0
      c.args.at.o
      c.requires.0.4
      c.requires.1.1
      c.requires.3),
)

pub run_all-requires : goal.run_all-requires
run_all-requires c = (
  (
    c.requires.0.1,
    omega (
      arith,
      c.requires.1.1.fits,
      c.word-k.ensures.1,
    ),
    c.word-d.ensures.1,
    c.requires.0.2,
    c.requires.0.3,
  ),
  takers-left
      c.args.t.now
      c.args.mem.now _
      c.requires.1.0 c.args.at.n
      c.args.plan.now (byte_at
      c.args.s.now
      c.args.at.p)
      c.args.at.o c.word-k.result c.word-d.result
      c.requires.1.1 c.tasks.ensures.2 c.word-k.ensures.0
      c.word-d.ensures.0,
  c.tasks.ensures.1,
)

pub returns : goal.returns
returns c = (
  (λ order f r. place-done
      c.args.t.now
      c.args.s.now
      c.args.mem.now order
      c.args.plan.now
      c.args.at.n
      c.args.at.o
      c.args.at.p c.word-m.result
      c.args.cells.now _ _
      c.requires.0.0 f
      c.requires.0.3 r c.word-m.ensures.0
      c.copy_row.ensures (subst (λ
      (v : List ℕ). Knows
      c.args.t.now
      c.args.s.now v
      c.args.at.n
      c.args.mem.now
      (c.args.at.p + 1)
      c.args.at.p) (sym
      c.copy_row.ensures) (knows_copy
      c.args.t.now
      c.args.s.now
      c.args.cells.now
      c.args.mem.now
      c.args.at.n
      c.args.at.p (byte_at
      c.args.s.now
      c.args.at.p) refl
      c.requires.0.3
      c.args.plan.now
      c.requires.1.0
      c.args.at.o
      c.requires.0.4
      c.requires.1.1
      c.requires.3)) c.tasks.ensures.0),
  c.run_all.ensures.0,
  (λ j l. c.run_all.ensures.1 j l ∙ c.tasks.ensures.2 j l),
)
