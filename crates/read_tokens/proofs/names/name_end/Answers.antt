use mathlib.Core.Path.{refl, sym, ◌∙◌}
use native.Mathlib.Omega.{arith}
use Rattle.read_tokens.proofs.TokenSteps.{span-end, span-stop, span_more}
use Rattle.read_tokens.proofs.names.name_end.Goals as goal

pub loop-i-init : goal.loop-i-init
loop-i-init c = refl

pub returns-then-not-in_name : goal.returns-then-not-in_name
returns-then-not-in_name c = sym (span-stop _ _ c.loop-i-test.true (sym c.in_name.ensures ∙ c.if-not-in_name.true)) ∙ c.loop-i.invariant

pub loop-i-preserved : goal.loop-i-preserved
loop-i-preserved c = sym (span_more _ _ c.loop-i-test.true (sym c.in_name.ensures ∙ c.if-not-in_name.false)) ∙ c.loop-i.invariant

pub returns : goal.returns
returns c = grind (arith, c.max.ensures, c.loop-i.invariant, span-end c.args.text.now c.loop-i.i c.loop-i-test.false, span-end c.args.text.now c.args.from)
