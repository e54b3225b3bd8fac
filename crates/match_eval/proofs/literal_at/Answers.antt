use Rattle.std.proofs.Common.{ℕ, List, ◌+◌, ◌-◌, ◌≡◌, sym, ap, ◌∙◌, arith}
use Rattle.grammar_table.specs.Table.{words_from}
use Rattle.grammar_table.specs.laws.Leaves.{words-length}
use Rattle.match_eval.specs.Eval.{stands}
use Rattle.match_eval.proofs.laws.EvalSteps.{literal-takes, literal-fails}
use Rattle.match_eval.proofs.laws.Leaves.{lit-ends, lit-differs, lit-goes, lit-done}
use Rattle.match_eval.proofs.literal_at.Goals as goal
use Rattle.match_eval.proofs.literal_at.Goals.{then-s-q-via-then-s-q, then-s-q-via-else-s-q+then-from-word}

pub returns-then-s-q : goal.returns-then-s-q
returns-then-s-q c =
    elim c.then-s-q.branch [
      | then-s-q-via-then-s-q w ↦
          literal-fails c.args.s.now c.args.p (words_from c.args.t.now c.args.i c.args.n)
          (lit-ends c.args.s.now c.args.t.now (c.args.p + c.loop-k.k) (c.args.i + c.loop-k.k) (c.args.n - c.loop-k.k) (omega arith) w.if-s-q.true
          ∙ c.loop-k.invariant.1)
      | then-s-q-via-else-s-q+then-from-word w ↦
          literal-fails c.args.s.now c.args.p (words_from c.args.t.now c.args.i c.args.n)
          (lit-differs c.args.s.now c.args.t.now (c.args.p + c.loop-k.k) (c.args.i + c.loop-k.k) (c.args.n - c.loop-k.k) (omega arith)
          w.from.result w.word.result (omega arith) w.from.ensures w.word.ensures.0 w.if-from-word.true
          ∙ c.loop-k.invariant.1)
    ]

-- a place further, as the loop counts
further : (s t : List ℕ) (p i n k : ℕ)
    → stands s (p + (k + 1)) (words_from t (i + (k + 1)) (n - (k + 1))) ≡ stands s (p + k + 1) (words_from t (i + k + 1) (n - k - 1))
further s t p i n k =
    let a : p + (k + 1) ≡ p + k + 1 = omega arith in
    let b : i + (k + 1) ≡ i + k + 1 = omega arith in
    let c : n - (k + 1) ≡ n - k - 1 = omega arith in
    cc

pub loop-k-preserved : goal.loop-k-preserved
loop-k-preserved c = (
  omega arith,
  further c.args.s.now c.args.t.now c.args.p c.args.i c.args.n c.loop-k.k
      ∙ lit-goes c.args.s.now c.args.t.now (c.args.p + c.loop-k.k) (c.args.i + c.loop-k.k) (c.args.n - c.loop-k.k) (omega arith)
      c.from.result c.word.result (omega arith) c.from.ensures c.word.ensures.0 c.if-from-word.false
      ∙ c.loop-k.invariant.1,
)

pub returns : goal.returns
returns c =
    ap (λ (m : ℕ). m + 1) (sym (words-length c.args.t.now c.args.i c.args.n))
    ∙ literal-takes c.args.s.now c.args.p (words_from c.args.t.now c.args.i c.args.n)
    (lit-done c.args.s.now c.args.t.now (c.args.p + c.loop-k.k) (c.args.i + c.loop-k.k) (c.args.n - c.loop-k.k) (omega arith) ∙ c.loop-k.invariant.1)
