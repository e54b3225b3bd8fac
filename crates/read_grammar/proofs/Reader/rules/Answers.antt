use Rattle.std.proofs.Common.{[], ◌≡◌, refl, sym, ap, ◌∙◌, arith}
use Rattle.read_tokens.specs.declared.Kind.TheVariants.{End}
use Rattle.read_tokens.specs.laws.Tags.{kind-yes, kind-no}
use Rattle.read_grammar.specs.steps.Promises.{toks_at}
use Rattle.read_grammar.specs.laws.Places.{kind_l}
use Rattle.read_grammar.specs.laws.Glue.{kind-there, no-token}
use Rattle.read_grammar.specs.laws.Rules.{loop-r, more-r, end-r}
use Rattle.read_grammar.proofs.Reader.rules.Goals as goal

pub loop-i-init : goal.loop-i-init
loop-i-init c = (omega arith, omega arith, refl, loop-r _ _ _)

pub returns-then-eq : goal.returns-then-eq
returns-then-eq c = end-r c.loop-i.invariant.3 (no-token _ _ _ _ c.token-h.ensures (kind-yes _ End (sym c.eq.ensures ∙ c.if-eq.true)))

pub loop-i-smaller : goal.loop-i-smaller
loop-i-smaller c = omega (
  arith,
  c.rule-i.ensures.high,
  c.rule-i.ensures.forth (λ e. kind-no _ End (sym c.eq.ensures ∙ c.if-eq.false) (kind-there _ _ _ _ c.token-h.ensures ∙ ap kind_l e)),
)

pub loop-i-preserved : goal.loop-i-preserved
loop-i-preserved c =
    let r = c.args.self.now in
    let n = kind-no _ End (sym c.eq.ensures ∙ c.if-eq.false) in
    let some : toks_at r.mode r.text.now c.loop-i.i ≡ [] → ⊥ = (λ e. n (kind-there _ _ _ _ c.token-h.ensures ∙ ap kind_l e)) in (
      omega (arith, c.loop-i.invariant.0, c.rule-i.ensures.forth some),
      c.rule-i.ensures.high,
      c.rule-i.auto.t ∙ c.loop-i.invariant.2,
      more-r c.loop-i.invariant.3 some c.rule-i.ensures,
    )
