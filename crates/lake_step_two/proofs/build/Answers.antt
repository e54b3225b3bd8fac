use Rattle.std.proofs.Common.{arith, refl, ◌≡◌, ℕ, subst}
use Rattle.lake_step_two.specs.steps.Stepped.{PlainMade}
use Rattle.lake_step_two.proofs.build.Goals as goal

pub loop-s-init : goal.loop-s-init
loop-s-init c = (omega arith, omega arith, refl, λ g a er ex made. made)

pub loop-s-preserved : goal.loop-s-preserved
loop-s-preserved c = (
  c.symbol-reached.ensures.0,
  omega (arith, c.symbol-reached.ensures.1),
  omega (arith, c.symbol-reached.auto),
  λ g a er ex made. c.symbol-reached.ensures.2 g a er ex (omega arith) (c.loop-s.invariant.3 g a er ex made),
)

pub returns : goal.returns
returns c = λ g a er ex made. let q : c.loop-s.s ≡ c.args.among.symbols = omega arith in (
  c.loop-s.reached.from,
  subst (λ (y : ℕ). PlainMade c.args.t.now g y c.loop-s.reached.from c.loop-s.reached.count c.loop-s.out) q
      (c.loop-s.invariant.3 g a er ex made),
)
