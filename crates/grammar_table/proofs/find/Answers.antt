use Rattle.std.proofs.Common.{arith, sym, ap, ◌∙◌, ℕ, ◌+◌, ◌-◌, mul-suc}
use Rattle.grammar_table.specs.laws.Seeks.{seek-whole, seek_hit, seek-on, seek-end}
use Rattle.grammar_table.specs.steps.Rows.{seek}
use Rattle.grammar_table.proofs.find.Goals as goal

pub loop-i-init : goal.loop-i-init
loop-i-init c = seek-whole _ _ _ _ _ _ ∙ ap (λ (b : ℕ). 0 + seek c.args.t.now c.args.rec.now c.args.o c.args.width b (c.args.n - 0)) (omega arith)

pub returns-then-same_record : goal.returns-then-same_record
returns-then-same_record c = sym (c.loop-i.invariant ∙ seek_hit _ _ _ _ _ _ _ c.loop-i-test.true (sym c.same_record.ensures ∙ c.if-same_record.true))

pub loop-i-preserved : goal.loop-i-preserved
loop-i-preserved c =
    c.loop-i.invariant ∙ seek-on _ _ _ _ _ _ _ c.loop-i-test.true (sym c.same_record.ensures ∙ c.if-same_record.false)
    ∙ ap (λ (b : ℕ). c.loop-i.i + 1 + seek c.args.t.now c.args.rec.now c.args.o c.args.width b (c.args.n - (c.loop-i.i + 1))) (omega (arith, mul-suc c.args.width c.loop-i.i))

pub returns : goal.returns
returns c =
    let e = c.loop-i.invariant ∙ seek-end _ _ _ _ _ _ _ c.loop-i-test.false in
    omega (arith, e)
