use Rattle.std.proofs.Common.{arith, ap, ◌∙◌}
use Rattle.lake_step_one.specs.steps.Extents.{end_of}
use Rattle.lake_step_one.proofs.laws.Extents.{some-end}
use Rattle.lake_step_two.proofs.laws.Skips.{plain-bare, plain-lake}
use Rattle.lake_step_two.proofs.lake_body.Goals as goal

pub returns-in_default : goal.returns-in_default
returns-in_default c = (
  omega (arith, c.skip.ensures.0),
  plain-bare c.args.t.now c.args.s c.args.among.symbols c.args.among.terminals _ _ c.args.m c.args.out.now c.skip.new.out c.skip.result
      (ap end_of c.in_default.is) c.skip.ensures.1,
)

pub returns : goal.returns
returns c = (
  omega (arith, c.count-k.ensures, c.skip-p.ensures.0, c.in-Some.own.words),
  rw c.in-Some.is (plain-lake c.args.t.now c.args.s c.args.among.symbols c.args.among.terminals c.in-Some.own.from c.in-Some.own.end c.args.m c.args.out.now
      c.count-k.result c.copy_run.new.mid (λ e. let z : ⊥ = omega (arith, c.in-Some.own.words, e) in z) c.count-k.ensures c.copy_run.ensures
      c.skip-p.new.out c.store_expression.new.t c.skip-p.result c.cap-x.result c.cap-y.result c.skip-p.ensures.1
      (λ h. c.cap-x.ensures.1 (omega (arith, c.saturating_sub.ensures)) ∙ c.saturating_sub.ensures)
      (λ h. c.cap-y.ensures.1 (omega (arith, c.saturating_sub-2.ensures)) ∙ c.saturating_sub-2.ensures) c.store_expression.ensures),
)
