use Rattle.std.proofs.Common.{ℕ, ◌≡◌, ◌+◌, not, get_or, sym, ap, ◌∙◌, arith}
use borrow.Author.Tests.{eq-eqb, ne_eqb}
use Rattle.grammar_table.specs.Table.{marks_from}
use Rattle.grammar_table.specs.laws.Leaves.{marks-at}
use Rattle.match_eval.proofs.laws.EvalSteps.{class-ends, class-takes, class-fails}
use Rattle.match_eval.proofs.class_at.Goals as goal
use Rattle.match_eval.proofs.class_at.Goals.{else-p-s-via-then-p-s+else-word-ne0, else-p-s-via-else-p-s}

pub returns-then-word-ne0 : goal.returns-then-word-ne0
returns-then-word-ne0 c =
    let e : c.word.result ≡ get_or c.args.t.now (c.args.i + get_or c.args.s.now c.args.p 0) 0 =
    c.word.ensures.0 ∙ ap (λ (j : ℕ). get_or c.args.t.now (c.args.i + j) 0) c.from.ensures in
    class-takes c.args.s.now c.args.p (marks_from c.args.t.now c.args.i 256) c.if-p-s.true
    (marks-at c.args.t.now c.args.i 256 (get_or c.args.s.now c.args.p 0) (omega (arith, c.type_inv.s c.args.p))
    ∙ ap not (ne_eqb (get_or c.args.t.now (c.args.i + get_or c.args.s.now c.args.p 0) 0) 0 (λ z. c.if-word-ne0.true (e ∙ z))))

pub returns-else-p-s : goal.returns-else-p-s
returns-else-p-s c =
    elim c.else-p-s.branch [
      | else-p-s-via-then-p-s+else-word-ne0 w ↦
          let e : w.word.result ≡ get_or c.args.t.now (c.args.i + get_or c.args.s.now c.args.p 0) 0 =
          w.word.ensures.0 ∙ ap (λ (j : ℕ). get_or c.args.t.now (c.args.i + j) 0) w.from.ensures in
          class-fails c.args.s.now c.args.p (marks_from c.args.t.now c.args.i 256) w.if-p-s.true
          (marks-at c.args.t.now c.args.i 256 (get_or c.args.s.now c.args.p 0) (omega (arith, c.type_inv.s c.args.p))
          ∙ ap not (eq-eqb (get_or c.args.t.now (c.args.i + get_or c.args.s.now c.args.p 0) 0) 0 (sym e ∙ w.if-word-ne0.false)))
      | else-p-s-via-else-p-s w ↦ class-ends c.args.s.now c.args.p (marks_from c.args.t.now c.args.i 256) (omega arith)
    ]
