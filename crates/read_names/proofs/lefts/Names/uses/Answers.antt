use Rattle.std.proofs.Common.{sym, ◌∙◌, arith}
use Rattle.read_tokens.specs.declared.Kind.TheVariants.{End}
use Rattle.read_tokens.specs.laws.Tags.{kind-yes, kind-no}
use Rattle.read_tokens.specs.laws.Here.{here}
use Rattle.read_order.specs.steps.Order.{within}
use Rattle.read_names.specs.steps.Lefts.{lacks5}
use Rattle.read_names.specs.laws.Sweeps.{going, swept-end, swept-limit, uses-bad, uses-next}
use Rattle.read_names.proofs.lefts.Names.uses.Goals as goal

pub loop-at-init : goal.loop-at-init
loop-at-init c = (omega arith, going _ _ (lacks5 _ _) (within _ _ _))

pub returns-then-eq : goal.returns-then-eq
returns-then-eq c = swept-end _ _ (lacks5 _ _) (within _ _ _) c.loop-at.invariant.1 _ c.token_by-t.ensures c.args.limit (kind-yes _ End (sym c.eq.ensures ∙ c.if-eq.true))

pub returns-then-bad : goal.returns-then-bad
returns-then-bad c = uses-bad _ _ _ _ c.loop-at.invariant.1 _ c.token_by-t.ensures (kind-no _ End (sym c.eq.ensures ∙ c.if-eq.false))
    c.in_ok-bad.bad c.in_ok-bad.ensures c.args.limit c.loop-at-test.true c.if-bad.true

pub loop-at-smaller : goal.loop-at-smaller
loop-at-smaller c =
    let h = here _ _ _ _ c.token_by-t.ensures (kind-no _ End (sym c.eq.ensures ∙ c.if-eq.false)) in omega (arith, h.forth, h.within)

pub loop-at-preserved : goal.loop-at-preserved
loop-at-preserved c = (
  (here _ _ _ _ c.token_by-t.ensures (kind-no _ End (sym c.eq.ensures ∙ c.if-eq.false))).within,
  uses-next _ _ _ _ c.loop-at.invariant.1 _ c.token_by-t.ensures
      (kind-no _ End (sym c.eq.ensures ∙ c.if-eq.false)) c.in_ok-bad.bad c.in_ok-bad.ensures c.if-bad.false,
)

pub returns : goal.returns
returns c = swept-limit _ _ (lacks5 _ _) (within _ _ _) c.loop-at.invariant.1 c.args.limit (omega (arith, c.loop-at-test.false))
