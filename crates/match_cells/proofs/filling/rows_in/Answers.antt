use native.Mathlib.Omega.{arith}
use native.Mathlib.Nat.{mul-le-mul}
use borrow.Author.Tests.{leb-true}
use mathlib.Core.Path.{sym, subst}
use Prim.Native.Nat.{ℕ, ◌+◌, ◌*◌, ◌≤◌}
use lib.ListN.{length}
use Rattle.match_eval.specs.steps.Memory.{Knows}
use Rattle.match_cells.specs.laws.Preset.{fillable-first}
use Rattle.match_cells.specs.laws.Tasks.{kept-settable, filled-by}
use Rattle.match_cells.proofs.filling.rows_in.Goals as goal

pub list_all-requires : goal.list_all-requires
list_all-requires c = c.requires.0.1

pub plan_all-requires : goal.plan_all-requires
plan_all-requires c = c.requires.0.1

pub overflow_add-full : goal.overflow_add-full
overflow_add-full c = omega (arith, c.requires.0.3)

pub overflow_mul-full : goal.overflow_mul-full
overflow_mul-full c = let h : (length
    c.args.s.now + 1) * c.args.n ≤ 65536 * 64 = mul-le-mul {n₂ = 65536}
    {m₂ = 64} (omega
    (arith, c.requires.0.3))
    c.requires.0.1 in omega (arith, h)

pub keep_right-requires : goal.keep_right-requires
keep_right-requires c = c.requires.0.1

pub rows-requires : goal.rows-requires
rows-requires c = (fillable-first
    c.args.t.now
    c.args.s.now
    c.args.cells.now
    c.args.order.now _
    c.args.n
    c.requires.0.0
    c.requires.0.1
    c.requires.0.2
    c.requires.0.3
    c.decide_all.ensures.0
    (kept-settable _ c.keep_right.new.plan
    c.args.s.now
    c.args.n (length
    c.args.cells.now) _
    c.decide_all.ensures.1
    (λ e. leb-true _ _ e) (λ b f. (c.keep_right.ensures.1 b f).0)) c.keep_right.ensures.0
    (λ b f. (c.keep_right.ensures.1 b f).1))

pub returns : goal.returns
returns c = (
  filled-by
      c.args.t.now
      c.args.s.now
      c.args.cells.now _
      c.args.order.now _
      c.args.n
      c.requires.0.0 (fillable-first
      c.args.t.now
      c.args.s.now
      c.args.cells.now
      c.args.order.now _
      c.args.n
      c.requires.0.0
      c.requires.0.1
      c.requires.0.2
      c.requires.0.3
      c.decide_all.ensures.0
      (kept-settable _ c.keep_right.new.plan
      c.args.s.now
      c.args.n (length
      c.args.cells.now) _
      c.decide_all.ensures.1 (λ e. leb-true _ _ e) (λ b f. (c.keep_right.ensures.1 b f).0))
      c.keep_right.ensures.0
      (λ b f. (c.keep_right.ensures.1 b f).1)) c.rows.ensures.0,
  subst (λ (m : ℕ). Knows
      c.args.t.now
      c.args.s.now c.rows.new.cells m c.rows.new.mem 0 0) (sym
      c.requires.0.0) c.rows.ensures.1,
)
