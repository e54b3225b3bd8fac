use native.Mathlib.Omega.{arith}
use Prim.Native.Nat.{ℕ, ◌+◌, ◌-◌}
use mathlib.Core.Path.{ap, ◌∙◌}
use Rattle.grammar_table.specs.Trees.{tree_of}
use Rattle.match_eval.proofs.laws.Within.{ev-within}
use Rattle.match_eval.proofs.laws.Memory.{knows-from, rounds-within, rounds-next}
use Rattle.match_rounds.specs.laws.Noted.{learnt}
use Rattle.match_rounds.proofs.learn_first.Goals as goal

pub overflow_add-first : goal.overflow_add-first
overflow_add-first c = omega (
  arith,
  ev-within c.args.s.now
      c.args.cells.now
      c.args.n (tree_of
      c.args.t.now
      c.args.first.y)
      c.args.first.p
      c.requires.0.3,
  c.requires.0,
)

pub many_at-c-requires : goal.many_at-c-requires
many_at-c-requires c = (
  omega (
    arith,
    ev-within c.args.s.now
        c.args.cells.now
        c.args.n (tree_of
        c.args.t.now
        c.args.first.y)
        c.args.first.p
        c.requires.0.3,
    c.requires.0,
    c.if-first-le1.false,
  ),
  knows-from c.args.t.now
      c.args.s.now
      c.args.cells.now
      c.args.mem.now
      c.args.n
      c.args.first.p 0
      c.args.first.p
      (c.args.first.p +
      (c.args.first.a - 1)) (omega arith) (omega arith)
      c.requires.1,
)

pub overflow_add-first-in-Some : goal.overflow_add-first-in-Some
overflow_add-first-in-Some c = omega (
  arith,
  ev-within c.args.s.now
      c.args.cells.now
      c.args.n (tree_of
      c.args.t.now
      c.args.first.y)
      c.args.first.p
      c.requires.0.3,
  c.many_at-c.ensures,
  c.requires.0,
  c.if-first-le1.false,
  rounds-within
      c.args.t.now
      c.args.s.now
      c.args.cells.now
      c.args.n
      c.args.first.y
      (c.args.first.p +
      (c.args.first.a - 1)) (omega (
        arith,
        ev-within
            c.args.s.now
            c.args.cells.now
            c.args.n (tree_of
            c.args.t.now
            c.args.first.y)
            c.args.first.p
            c.requires.0.3,
        c.requires.0,
        c.if-first-le1.false,
      )),
)

pub remember-requires : goal.remember-requires
remember-requires c = omega (
  arith,
  c.in-Some.ensures,
  ev-within
      c.args.s.now
      c.args.cells.now
      c.args.n (tree_of
      c.args.t.now
      c.args.first.y)
      c.args.first.p
      c.requires.0.3,
  c.many_at-c.ensures,
  c.requires.0,
  c.if-first-le1.false,
  rounds-within
      c.args.t.now
      c.args.s.now
      c.args.cells.now
      c.args.n
      c.args.first.y
      (c.args.first.p +
      (c.args.first.a - 1)) (omega (
        arith,
        ev-within
            c.args.s.now
            c.args.cells.now
            c.args.n (tree_of
            c.args.t.now
            c.args.first.y)
            c.args.first.p
            c.requires.0.3,
        c.requires.0,
        c.if-first-le1.false,
      )),
)

pub returns-in-Some : goal.returns-in-Some
returns-in-Some c = learnt c.args.t.now
    c.args.s.now
    c.args.cells.now
    c.args.mem.now _
    c.args.n
    c.args.first.y
    c.in-Some.k
    c.args.first.p _ (omega
    (arith, c.requires.0))
    c.in-Some.ensures.0
    c.requires.1 c.remember.ensures
    (ap (λ (v : ℕ). c.args.first.a - 1 + v)
    c.many_at-c.ensures
    ∙ rounds-next c.args.t.now
    c.args.s.now
    c.args.cells.now
    c.args.n
    c.args.first.y
    c.args.first.p
    c.args.first.a
    c.requires.0.3
    c.requires.0.4 (omega
    (arith, c.if-first-le1.false)))
