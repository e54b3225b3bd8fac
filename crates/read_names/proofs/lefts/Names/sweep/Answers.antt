use Rattle.std.proofs.Common.{sym, ◌∙◌, ◌≡◌, refl, Bool, true, false, ◌||◌, true≢false, arith}
use Rattle.read_tokens.specs.declared.Kind.TheVariants.{End}
use Rattle.read_tokens.specs.laws.Tags.{kind-yes, kind-no}
use Rattle.read_tokens.specs.laws.Here.{here}
use Rattle.read_order.specs.steps.Order.{within}
use Rattle.read_names.specs.steps.Lefts.{lacks5}
use Rattle.read_names.specs.laws.Sweeps.{going, swept-end, swept-limit, sweeping, sweep-end, sweep-bad, sweep-next, sweep-limit, uses-next}
use Rattle.read_names.proofs.lefts.Names.sweep.Goals as goal

neither : (a b : Bool) → (a || b) ≡ false → (a ≡ false) × (b ≡ false)
neither true b e = absurd (true≢false e)
neither false b e = (refl, e)

pub loop-at-init : goal.loop-at-init
loop-at-init c = (omega arith, sweeping _ _ _ _ _ _ c.requires.1, λ z. going _ _ (lacks5 _ _) (within _ _ _))

pub returns-then-eq : goal.returns-then-eq
returns-then-eq c = (
  sweep-end _ _ _ _ _ c.loop-at.invariant.1 _ c.token_by-t.ensures c.args.limit (kind-yes _ End (sym c.eq.ensures ∙ c.if-eq.true)),
  λ y. swept-end _ _ (lacks5 _ _) (within _ _ _) (c.loop-at.invariant.2 y) _ c.token_by-t.ensures c.args.limit (kind-yes _ End (sym c.eq.ensures ∙ c.if-eq.true)),
)

pub returns-then-r : goal.returns-then-r
returns-then-r c = (
  sweep-bad _ _ _ _ _ c.loop-at.invariant.1 _ c.token_by-t.ensures
      (kind-no _ End (sym c.eq.ensures ∙ c.if-eq.false)) c.in_ok-r.r.bad _ c.in_ok-r.ensures.0 c.args.limit c.loop-at-test.true c.requires.0 c.if-r.true,
  λ y. absurd (true≢false y),
)

pub loop-at-smaller : goal.loop-at-smaller
loop-at-smaller c =
    let h = here _ _ _ _ c.token_by-t.ensures (kind-no _ End (sym c.eq.ensures ∙ c.if-eq.false)) in omega (arith, h.forth, h.within)

pub loop-at-preserved : goal.loop-at-preserved
loop-at-preserved c = (
  (here _ _ _ _ c.token_by-t.ensures (kind-no _ End (sym c.eq.ensures ∙ c.if-eq.false))).within,
  sweep-next _ _ _ _ _ c.loop-at.invariant.1 _ c.token_by-t.ensures
      (kind-no _ End (sym c.eq.ensures ∙ c.if-eq.false)) c.in_ok-r.r.bad _ c.in_ok-r.ensures.0 c.if-r.false,
  λ y.
      let b = neither c.loop-at.used c.in_ok-r.r.used y in
      uses-next _ _ _ _ (c.loop-at.invariant.2 b.0) _ c.token_by-t.ensures
      (kind-no _ End (sym c.eq.ensures ∙ c.if-eq.false)) false (c.in_ok-r.ensures.1 b.1) refl,
)

pub returns : goal.returns
returns c = (
  sweep-limit _ _ _ _ _ c.loop-at.invariant.1 c.args.limit (omega (arith, c.loop-at-test.false)),
  λ y. swept-limit _ _ (lacks5 _ _) (within _ _ _) (c.loop-at.invariant.2 y) c.args.limit (omega (arith, c.loop-at-test.false)),
)
