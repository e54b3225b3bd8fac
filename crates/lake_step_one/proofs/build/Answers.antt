use Rattle.std.proofs.Common.{arith, refl, ◌≡◌, ℕ, subst}
use Rattle.lake_step_one.specs.steps.Made.{Made}
use Rattle.lake_step_one.proofs.build.Goals as goal

pub loop-s-init : goal.loop-s-init
loop-s-init c = (omega arith, omega arith, refl, λ g h e w made. made)

pub loop-s-preserved : goal.loop-s-preserved
loop-s-preserved c = (
  c.symbol-reached.ensures.0,
  omega (arith, c.symbol-reached.ensures.1),
  omega (arith, c.symbol-reached.auto),
  λ g h e w made. c.symbol-reached.ensures.2 g h (omega arith) w (c.loop-s.invariant.3 g h e w made),
)

pub returns : goal.returns
returns c = λ g h e w made. let q : c.loop-s.s ≡ c.args.r = omega arith in (
  c.loop-s.reached.from,
  subst (λ (y : ℕ). Made
      c.args.t.now g y c.loop-s.reached.from c.loop-s.reached.count c.loop-s.mid) q (c.loop-s.invariant.3 g h e w made),
)
