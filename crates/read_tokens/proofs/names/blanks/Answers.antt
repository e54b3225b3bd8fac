use mathlib.Core.Path.{refl, sym, ◌∙◌}
use mathlib.Core.Bool.{false}
use native.Mathlib.Omega.{arith}
use Rattle.read_tokens.proofs.TokenSteps.{skip_stop, skip-more, skip-end, opened-none, opened-some}
use Rattle.read_tokens.proofs.names.blanks.Goals as goal

pub loop-i-init : goal.loop-i-init
loop-i-init c = refl

pub returns-in_default : goal.returns-in_default
returns-in_default c = sym (skip_stop _ _ _ c.loop-i-test.true (opened-none _ c.in_default.ensures)) ∙ c.loop-i.invariant

pub loop-i-preserved : goal.loop-i-preserved
loop-i-preserved c = rw (opened-some _ _ c.in-Some.ensures).1 (sym (skip-more _ _ _ c.loop-i-test.true (opened-some _ _ c.in-Some.ensures).0) ∙ c.loop-i.invariant)

pub returns : goal.returns
returns c = grind (arith, c.max.ensures, c.loop-i.invariant, skip-end c.loop-i.inside c.args.text.now c.loop-i.i c.loop-i-test.false, skip-end false c.args.text.now c.args.at)
