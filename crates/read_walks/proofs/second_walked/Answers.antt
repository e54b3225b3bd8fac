use mathlib.Core.Path.{sym, ap, ◌∙◌, subst}
use native.Mathlib.Omega.{arith}
use Rattle.read_tokens.specs.declared.Kind.TheVariants.{End}
use Rattle.read_tokens.specs.declared.Token.{Token}
use Rattle.read_tokens.specs.Tokens.{token_at}
use Rattle.read_tokens.specs.laws.Here.{is-end, is-token, here}
use Rattle.read_tokens.specs.laws.Tags.{kind-yes, kind-no}
use Rattle.read_walks.specs.laws.Offences.{Walking, walking, walked, walked-into, walks-past}
use Rattle.read_walks.proofs.second_walked.Goals as goal

pub loop-mode-init : goal.loop-mode-init
loop-mode-init c = (omega arith, walking c.args.mode c.args.text.now)

pub returns-then-eq : goal.returns-then-eq
returns-then-eq c = walked c.args.mode c.args.text.now c.loop-mode.at c.loop-mode.invariant.1 (is-end (token_at c.args.mode c.args.text.now c.loop-mode.at).is (sym (ap (λ
    (t : Token). t.kind) c.token_at-t.ensures) ∙ kind-yes _ End (sym c.eq.ensures ∙ c.if-eq.true)))

pub bad_name-requires : goal.bad_name-requires
bad_name-requires c = (c.token_at-t.ensures, kind-no _ End (sym c.eq.ensures ∙ c.if-eq.false), c.requires)

pub returns-then-bad_name : goal.returns-then-bad_name
returns-then-bad_name c =
    let x = is-token (token_at c.args.mode c.args.text.now c.loop-mode.at).is (λ z. kind-no _ End (sym c.eq.ensures ∙ c.if-eq.false) (ap (λ (t : Token). t.kind) c.token_at-t.ensures ∙ z)) in
    walked-into c.args.mode c.args.text.now c.loop-mode.at c.token_at-t.result.start c.loop-mode.invariant.1 x.0 x.1
    (ap (λ (t : Token). t.start) c.token_at-t.ensures)
    (sym c.if-bad_name.true ∙ c.bad_name.ensures c.loop-mode.invariant.1.0 c.loop-mode.invariant.1.1 x.0 x.1)

pub loop-mode-smaller : goal.loop-mode-smaller
loop-mode-smaller c = omega (
  arith,
  (here c.args.mode c.args.text.now c.loop-mode.at c.token_at-t.result c.token_at-t.ensures (kind-no _ End (sym c.eq.ensures ∙ c.if-eq.false))).forth,
  (here c.args.mode c.args.text.now c.loop-mode.at c.token_at-t.result c.token_at-t.ensures (kind-no _ End (sym c.eq.ensures ∙ c.if-eq.false))).within,
)

pub loop-mode-preserved : goal.loop-mode-preserved
loop-mode-preserved c =
    let x = is-token (token_at c.args.mode c.args.text.now c.loop-mode.at).is (λ z. kind-no _ End (sym c.eq.ensures ∙ c.if-eq.false) (ap (λ (t : Token). t.kind) c.token_at-t.ensures ∙ z)) in (
      (here c.args.mode c.args.text.now c.loop-mode.at c.token_at-t.result c.token_at-t.ensures (kind-no _ End (sym c.eq.ensures ∙ c.if-eq.false))).within,
      subst (Walking c.args.mode c.args.text.now) (sym (ap (λ (t : Token). t.next) c.token_at-t.ensures))
          (walks-past c.args.mode c.args.text.now c.loop-mode.at c.loop-mode.invariant.1 x.0 x.1
          (sym c.if-bad_name.false ∙ c.bad_name.ensures c.loop-mode.invariant.1.0 c.loop-mode.invariant.1.1 x.0 x.1)),
    )
