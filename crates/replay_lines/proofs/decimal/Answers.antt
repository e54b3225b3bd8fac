use Rattle.std.proofs.Common.{sym, ◌∙◌, ◌+◌, arith, drop, Some, None}
use Rattle.replay_lines.specs.steps.Fields.{field}
use Rattle.replay_lines.specs.laws.Fields.{number_on, number-end, number-none, decimal_from}
use Rattle.replay_lines.proofs.decimal.Goals as goal

pub returns-in_err-v : goal.returns-in_err-v
returns-in_err-v c =
    let l = field c.args.s.now c.args.from c.args.to in
    c.from_residual.ensures ∙ decimal_from c.args.s.now c.args.from c.args.to (omega (arith, c.if-s-to.false)) (omega (arith, c.if-to-from.false)) None
    (sym (number-none (drop (c.loop-b.b-index + 1) l)) ∙ number_on l c.loop-b.b-index c.loop-b.v None c.loop-b-test.true c.in_err-v.ensures
    ∙ c.loop-b.invariant)

pub loop-b-preserved : goal.loop-b-preserved
loop-b-preserved c =
    number_on (field c.args.s.now c.args.from c.args.to) c.loop-b.b-index c.loop-b.v (Some c.in_ok-v.v) c.loop-b-test.true c.in_ok-v.ensures ∙ c.loop-b.invariant

pub returns : goal.returns
returns c =
    decimal_from c.args.s.now c.args.from c.args.to (omega (arith, c.if-s-to.false)) (omega (arith, c.if-to-from.false)) (Some c.loop-b.v)
    (sym (number-end (field c.args.s.now c.args.from c.args.to) c.loop-b.b-index c.loop-b.v (omega (arith, c.loop-b-test.false))) ∙ c.loop-b.invariant)
