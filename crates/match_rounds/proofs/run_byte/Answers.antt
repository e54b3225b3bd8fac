use native.Mathlib.Omega.{arith}
use borrow.Author.Tests.{not-true, not-false}
use lib.ListN.{get_or}
use Prim.Native.Nat.{ℕ, ◌+◌}
use mathlib.Core.Path.{sym, ap, subst, ◌∙◌}
use mathlib.Core.List.{List}
use Rattle.grammar_table.specs.Trees.{tree_of}
use Rattle.match_eval.specs.Eval.{ev}
use Rattle.match_eval.specs.steps.Memory.{parts_at, Knows, Front}
use Rattle.match_plan.specs.laws.Plan.{takes_one}
use Rattle.match_rounds.specs.laws.Noted.{longer-learnt}
use Rattle.match_rounds.proofs.run_byte.Goals as goal

pub go_on-requires : goal.go_on-requires
go_on-requires c = let one = takes_one c.args.t.now c.args.s.now c.args.cells.now
    c.args.mem.now c.args.n c.args.p c.args.k
    c.requires.1 c.requires.0.3 c.requires.0.4 in
    (omega arith, omega (arith, c.requires.0.1), omega (arith, one.0, c.requires.0.2))

pub learn_byte-requires : goal.learn_byte-requires
learn_byte-requires c =
    let one = takes_one c.args.t.now
    c.args.s.now
    c.args.cells.now
    c.args.mem.now
    c.args.n c.args.p
    c.args.k c.requires.1
    c.requires.0.3
    c.requires.0.4 in
    let same = c.go_on.ensures.same (not-true _ c.if-not-go_on.true-raw) in (
      (
        c.requires.0.0,
        c.word-y.ensures.1,
        c.requires.0.2,
        one.0,
        ap (λ (x : ℕ). ev c.args.s.now
            c.args.cells.now
            c.args.n (tree_of
            c.args.t.now x)
            c.args.p) (c.word-y.ensures.0 ∙ ap (λ (m : List ℕ). get_or m
            (parts_at + c.args.k) 0) same)
            ∙ one.1,
      ),
      subst (λ (m : List ℕ). Knows c.args.t.now
          c.args.s.now
          c.args.cells.now
          c.args.n m
          c.args.p c.args.p)
          (sym same) c.requires.1,
    )

pub returns-then-not-go_on : goal.returns-then-not-go_on
returns-then-not-go_on c = subst (λ (m : List ℕ). Knows c.args.t.now
    c.args.s.now
    c.args.cells.now
    c.args.n c.learn_byte.new.mem
    c.args.p
    c.args.p × Front m c.learn_byte.new.mem)
    (c.go_on.ensures.same (not-true _ c.if-not-go_on.true-raw)) c.learn_byte.ensures

pub returns-else-not-go_on : goal.returns-else-not-go_on
returns-else-not-go_on c = let one = takes_one c.args.t.now c.args.s.now
    c.args.cells.now c.args.mem.now c.args.n
    c.args.p c.args.k c.requires.1
    c.requires.0.3 c.requires.0.4 in
    longer-learnt c.args.t.now c.args.s.now
    c.args.cells.now c.args.mem.now _
    c.args.n _ (c.args.k + 1) c.args.p
    c.requires.0.2 one.0 c.requires.0.4.0
    c.requires.1 one.1
    (c.go_on.ensures.longer (not-false _ c.if-not-go_on.false-raw))
