use mathlib.Core.Path.{refl, ◌∙◌}
use mathlib.Core.Bool.{false}
use native.Mathlib.Omega.{arith}
use Rattle.read_tokens.proofs.TokenSteps.{skip-end, space-more}
use Rattle.read_tokens.proofs.spaces.Goals as goal

pub loop-i-init : goal.loop-i-init
loop-i-init c = refl

pub loop-i-preserved : goal.loop-i-preserved
loop-i-preserved c = space-more _ _ c.loop-i-test.true c.if-text-i-ne32.false ∙ c.loop-i.invariant

pub returns-then-text-i-ne32 : goal.returns-then-text-i-ne32
returns-then-text-i-ne32 c = c.loop-i.invariant

pub returns : goal.returns
returns c = grind (
  arith,
  c.max.ensures,
  c.loop-i.invariant,
  skip-end false c.args.text.now c.loop-i.i c.loop-i-test.false,
  skip-end false c.args.text.now c.args.at,
  skip-end false c.args.text.now c.max.result (omega (arith, c.max.ensures)),
)
