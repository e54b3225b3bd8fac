use Prim.Native.Nat.{ℕ, ◌+◌, ◌-◌}
use mathlib.Core.Path.{◌≡◌, ap, ◌∙◌}
use native.Mathlib.Omega.{arith}
use lib.Dec.{eqb}
use mathlib.Core.List.{List}
use lib.ListN.{get_or}
use Rattle.match_eval.specs.Eval.{ev}
use Rattle.match_eval.proofs.laws.Within.{ev-within}
use Rattle.match_eval.proofs.laws.Memory.{knows-from}
use Rattle.grammar_table.specs.Trees.{tree_of}
use Rattle.match_parts.specs.steps.Lists.{taken_by, run_of, list_of}
use Rattle.match_parts.specs.laws.Lists.{choice-takes, choice-goes-on, choice-ends, sequence-fails, sequence-goes-on, sequence-ends}
use Rattle.match_parts.proofs.list_at.Goals as goal

-- the words that were read are those of the list
module _ (t s cs : List ℕ) (n : ℕ) (lists : List ℕ) (i p kind k : ℕ) (e : kind ≡ get_or lists i 0) (f : k ≡ get_or lists (i + 1) 0) where
  whole : run_of (eqb kind 3) t s cs n lists (i + 2) p k (taken_by (eqb kind 3) 0) ≡ list_of t s cs n lists i p
  whole = rw (e, f)

pub piece-a-requires : goal.piece-a-requires
piece-a-requires c = (
  (
    c.requires.0.0,
    omega
        (arith, c.word-x.ensures.1),
    c.requires.0.2,
    c.loop-k.invariant.1,
  ),
  knows-from c.args.t.now
      c.args.s.now
      c.args.cells.now
      c.args.mem.now
      c.args.ask.n 0 0
      c.args.ask.p c.loop-k.q (omega arith)
      c.loop-k.invariant.0 c.requires.1,
)

pub returns-then-a-ne0 : goal.returns-then-a-ne0
returns-then-a-ne0 c = choice-takes c.args.t.now
    c.args.s.now
    c.args.cells.now
    c.args.ask.n
    c.args.lists.now
    (c.args.ask.i + 2)
    c.args.ask.p
    c.word-kind.result c.if-kind-eq-CHOICE.true
    c.loop-k.k (c.loop-k.q -
    c.args.ask.p) c.piece-a.result
    c.loop-k-test.true
    (c.piece-a.ensures ∙ ap (λ (h : ℕ). ev
    c.args.s.now
    c.args.cells.now
    c.args.ask.n (tree_of
    c.args.t.now h)
    c.loop-k.q) c.word-x.ensures.0 ∙ ap (λ (h : ℕ). ev
    c.args.s.now
    c.args.cells.now
    c.args.ask.n (tree_of
    c.args.t.now (get_or
    c.args.lists.now
    (c.args.ask.i + 2 +
    (c.loop-k.k - 1)) 0)) h) (c.loop-k.invariant.2 c.if-kind-eq-CHOICE.true))
    c.if-a-ne0.true ∙ c.loop-k.invariant.3 ∙ whole
    c.args.t.now
    c.args.s.now
    c.args.cells.now
    c.args.ask.n
    c.args.lists.now
    c.args.ask.i
    c.args.ask.p
    c.word-kind.result
    c.word-count.result
    c.word-kind.ensures.0
    c.word-count.ensures.0

pub loop-k-preserved-else-a-ne0 : goal.loop-k-preserved-else-a-ne0
loop-k-preserved-else-a-ne0 c = (
  c.loop-k.invariant.0,
  c.loop-k.invariant.1,
  c.loop-k.invariant.2,
  choice-goes-on c.args.t.now
      c.args.s.now
      c.args.cells.now
      c.args.ask.n
      c.args.lists.now
      (c.args.ask.i + 2)
      c.args.ask.p
      c.word-kind.result c.if-kind-eq-CHOICE.true
      c.loop-k.k (c.loop-k.q -
      c.args.ask.p) c.piece-a.result
      c.loop-k-test.true
      (c.piece-a.ensures ∙ ap (λ (h : ℕ). ev
      c.args.s.now
      c.args.cells.now
      c.args.ask.n (tree_of
      c.args.t.now h)
      c.loop-k.q) c.word-x.ensures.0 ∙ ap (λ (h : ℕ). ev
      c.args.s.now
      c.args.cells.now
      c.args.ask.n (tree_of
      c.args.t.now (get_or
      c.args.lists.now
      (c.args.ask.i + 2 +
      (c.loop-k.k - 1)) 0)) h) (c.loop-k.invariant.2 c.if-kind-eq-CHOICE.true))
      c.if-a-ne0.false ∙ c.loop-k.invariant.3,
)

pub returns-then-a-eq0 : goal.returns-then-a-eq0
returns-then-a-eq0 c = sequence-fails c.args.t.now
    c.args.s.now
    c.args.cells.now
    c.args.ask.n
    c.args.lists.now
    (c.args.ask.i + 2)
    c.args.ask.p
    c.word-kind.result c.if-kind-eq-CHOICE.false
    c.loop-k.k (c.loop-k.q -
    c.args.ask.p) c.piece-a.result
    c.loop-k-test.true
    (c.piece-a.ensures ∙ ap (λ (h : ℕ). ev
    c.args.s.now
    c.args.cells.now
    c.args.ask.n (tree_of
    c.args.t.now h)
    c.loop-k.q) c.word-x.ensures.0 ∙ ap (λ (h : ℕ). ev
    c.args.s.now
    c.args.cells.now
    c.args.ask.n (tree_of
    c.args.t.now (get_or
    c.args.lists.now
    (c.args.ask.i + 2 +
    (c.loop-k.k - 1)) 0)) h) (omega (arith, c.loop-k.invariant.0)))
    c.if-a-eq0.true ∙ c.loop-k.invariant.3 ∙ whole
    c.args.t.now
    c.args.s.now
    c.args.cells.now
    c.args.ask.n
    c.args.lists.now
    c.args.ask.i
    c.args.ask.p
    c.word-kind.result
    c.word-count.result
    c.word-kind.ensures.0
    c.word-count.ensures.0

pub overflow_add-q : goal.overflow_add-q
overflow_add-q c = omega (
  arith,
  c.loop-k.invariant.1,
  c.requires,
  c.piece-a.ensures,
  ev-within
      c.args.s.now
      c.args.cells.now
      c.args.ask.n (tree_of
      c.args.t.now c.word-x.result)
      c.loop-k.q c.loop-k.invariant.1,
)

pub loop-k-preserved : goal.loop-k-preserved
loop-k-preserved c = (
  omega (arith, c.loop-k.invariant.0),
  omega (
    arith,
    c.if-a-eq0.false,
    c.loop-k.invariant.1,
    c.piece-a.ensures,
    ev-within
        c.args.s.now
        c.args.cells.now
        c.args.ask.n (tree_of
        c.args.t.now c.word-x.result)
        c.loop-k.q c.loop-k.invariant.1,
  ),
  (λ e. absurd (c.if-kind-eq-CHOICE.false e)),
  sequence-goes-on c.args.t.now
      c.args.s.now
      c.args.cells.now
      c.args.ask.n
      c.args.lists.now
      (c.args.ask.i + 2)
      c.args.ask.p
      c.word-kind.result c.if-kind-eq-CHOICE.false
      c.loop-k.k (c.loop-k.q -
      c.args.ask.p) c.piece-a.result
      (c.loop-k.q + (c.piece-a.result - 1) -
      c.args.ask.p)
      c.loop-k-test.true
      (c.piece-a.ensures ∙ ap (λ (h : ℕ). ev
      c.args.s.now
      c.args.cells.now
      c.args.ask.n (tree_of
      c.args.t.now h)
      c.loop-k.q) c.word-x.ensures.0 ∙ ap (λ (h : ℕ). ev
      c.args.s.now
      c.args.cells.now
      c.args.ask.n (tree_of
      c.args.t.now (get_or
      c.args.lists.now
      (c.args.ask.i + 2 +
      (c.loop-k.k - 1)) 0)) h) (omega (arith, c.loop-k.invariant.0)))
      c.if-a-eq0.false (omega (arith, c.loop-k.invariant.0)) ∙ c.loop-k.invariant.3,
)

pub returns-else-kind-eq-CHOICE-2 : goal.returns-else-kind-eq-CHOICE-2
returns-else-kind-eq-CHOICE-2 c = sequence-ends c.args.t.now
    c.args.s.now
    c.args.cells.now
    c.args.ask.n
    c.args.lists.now
    (c.args.ask.i + 2)
    c.args.ask.p c.word-kind.result
    c.if-kind-eq-CHOICE-2.false c.loop-k.k (c.loop-k.q -
    c.args.ask.p)
    c.loop-k-test.false ∙ c.loop-k.invariant.3 ∙ whole
    c.args.t.now
    c.args.s.now
    c.args.cells.now
    c.args.ask.n
    c.args.lists.now
    c.args.ask.i
    c.args.ask.p c.word-kind.result
    c.word-count.result c.word-kind.ensures.0 c.word-count.ensures.0

pub returns-then-kind-eq-CHOICE-2 : goal.returns-then-kind-eq-CHOICE-2
returns-then-kind-eq-CHOICE-2 c =
    choice-ends c.args.t.now c.args.s.now c.args.cells.now c.args.ask.n c.args.lists.now (c.args.ask.i + 2) c.args.ask.p c.word-kind.result
    c.if-kind-eq-CHOICE-2.true c.loop-k.k (c.loop-k.q - c.args.ask.p) c.loop-k-test.false
    ∙ c.loop-k.invariant.3
    ∙ whole c.args.t.now c.args.s.now c.args.cells.now c.args.ask.n c.args.lists.now c.args.ask.i c.args.ask.p c.word-kind.result c.word-count.result
    c.word-kind.ensures.0 c.word-count.ensures.0
