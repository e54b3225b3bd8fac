use Rattle.std.proofs.Common.{sym, ◌∙◌, arith}
use borrow.Author.Tests.{lt-leb}
use Rattle.std.proofs.Math.Bool.{true≢false}
use Rattle.match_plan.specs.laws.Plan.{recorded}
use Rattle.match_plan.proofs.Sight.record_right.Goals as goal
use Rattle.match_plan.proofs.Sight.record_right.Goals.{then-m-c, else-m-c, then-row_right, else-row_right, then-opens_right, else-opens_right}

pub returns-then-keys_right : goal.returns-then-keys_right
returns-then-keys_right c = λ e.
    let f = c.args.self.now in
    elim c.if-opens_right.branch [
      | then-opens_right w3 ↦
          elim c.if-row_right.branch [
            | then-row_right w2 ↦
                elim c.if-m-c.branch [
                  | then-m-c w1 ↦
                      recorded f.table.now f.mem.now f.order.now f.n c.args.plan.now c.args.b c.args.o c.word-m.result c.word-c.result c.word-k.result
                      (omega arith) (w1.row_right.ensures (sym w1.value-is ∙ w2.if-row_right.true)) c.word-m.ensures.0 c.word-c.ensures.0 w1.if-m-c.true
                      (w2.opens_right.ensures (sym w2.value-is ∙ w3.if-opens_right.true)) (w3.keys_right.ensures (sym w3.value-is ∙ c.if-keys_right.true))
                      c.word-k.ensures.0 (c.takers_right.ensures e)
                  | else-m-c w1 ↦ absurd (true≢false (sym w2.if-row_right.true ∙ w1.value-is ∙ lt-leb c.word-m.result c.word-c.result (omega arith)))
                ]
            | else-row_right w2 ↦ absurd (true≢false (sym w3.if-opens_right.true ∙ w2.value-is ∙ w2.if-row_right.false))
          ]
      | else-opens_right w3 ↦ absurd (true≢false (sym c.if-keys_right.true ∙ w3.value-is ∙ w3.if-opens_right.false))
    ]
