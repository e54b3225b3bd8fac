use native.Mathlib.Omega.{arith}
use borrow.Author.Tests.{not-true, not-false}
use Prim.Native.Nat.{ℕ, ◌+◌}
use mathlib.Core.Path.{sym, subst}
use mathlib.Core.List.{List}
use Rattle.match_eval.specs.steps.Memory.{Knows}
use Rattle.match_eval.proofs.laws.Memory.{knows-from, rounds-within, rounds-next}
use Rattle.match_rounds.specs.steps.Noted.{Noted}
use Rattle.match_rounds.specs.laws.Noted.{learnt, longer-learnt}
use Rattle.match_rounds.proofs.learn_byte.Goals as goal

pub many_at-c-requires : goal.many_at-c-requires
many_at-c-requires c = (
  omega (arith, c.requires.0),
  subst (λ (v : List ℕ). Knows c.args.t.now
      c.args.s.now
      c.args.cells.now
      c.args.n v 0
      (c.args.p + 1)) (sym (c.go_on.ensures.same (not-true _
      c.if-not-go_on.true-raw)))
      (knows-from c.args.t.now
      c.args.s.now
      c.args.cells.now
      c.args.mem.now
      c.args.n
      c.args.p 0
      c.args.p
      (c.args.p + 1) (omega arith) (omega arith)
      c.requires.1),
)

pub overflow_add-c : goal.overflow_add-c
overflow_add-c c = let within = rounds-within c.args.t.now
    c.args.s.now
    c.args.cells.now
    c.args.n
    c.args.y
    (c.args.p + 1) (omega
    (arith, c.requires.0)) in
    omega (
      arith,
      c.many_at-c.ensures,
      within,
      c.requires.0,
    )

pub note-requires : goal.note-requires
note-requires c = let within = rounds-within c.args.t.now
    c.args.s.now
    c.args.cells.now
    c.args.n
    c.args.y
    (c.args.p + 1) (omega
    (arith, c.requires.0)) in
    omega (
      arith,
      c.many_at-c.ensures,
      within,
      c.requires.0,
    )

pub returns-then-not-go_on : goal.returns-then-not-go_on
returns-then-not-go_on c = learnt c.args.t.now
    c.args.s.now
    c.args.cells.now
    c.args.mem.now _
    c.args.n
    c.args.y
    c.in-Some.k
    c.args.p (c.many_at-c.result + 1) (omega
    (arith, c.requires.0))
    c.in-Some.ensures.0
    c.requires.1
    (subst (λ (v : List ℕ). Noted c.in-Some.k
    c.args.p (c.many_at-c.result + 1) v
    c.note.new.mem) (c.go_on.ensures.same (not-true _ c.if-not-go_on.true-raw)) c.note.ensures)
    (omega (
      arith,
      c.many_at-c.ensures,
      rounds-next c.args.t.now
          c.args.s.now
          c.args.cells.now
          c.args.n
          c.args.y
          c.args.p 2 (omega
          (arith, c.requires.0)) (sym
          c.requires.0.4) (omega arith),
    ))

pub returns-else-not-go_on : goal.returns-else-not-go_on
returns-else-not-go_on c = longer-learnt c.args.t.now
    c.args.s.now
    c.args.cells.now
    c.args.mem.now _
    c.args.n c.args.y
    c.in-Some.k c.args.p (omega
    (arith, c.requires.0)) (omega
    (arith, c.requires.0))
    c.in-Some.ensures.0
    c.requires.1 c.requires.0.4
    (c.go_on.ensures.longer (not-false _ c.if-not-go_on.false-raw))
