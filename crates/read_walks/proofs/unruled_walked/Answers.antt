use Prim.Native.Nat.{ℕ}
use mathlib.Core.Path.{refl, sym, ap, ◌∙◌}
use native.Mathlib.Omega.{arith}
use Rattle.read_tokens.specs.declared.Kind.TheVariants.{End}
use Rattle.read_tokens.specs.declared.Token.{Token}
use Rattle.read_tokens.specs.Tokens.{token_at, lexemes}
use Rattle.read_tokens.specs.laws.Forward.{lexemes_at}
use Rattle.read_tokens.specs.laws.Here.{is-end, is-token, here}
use Rattle.read_tokens.specs.laws.Tags.{kind-yes, kind-no}
use Rattle.read_syntax.specs.Reading.{lefts_in, unruled}
use Rattle.read_walks.specs.steps.Names.{placed}
use Rattle.read_walks.specs.laws.Offences.{none-lacks, this-lacks, later-lacks}
use Rattle.read_walks.proofs.unruled_walked.Goals as goal

pub loop-mode-init : goal.loop-mode-init
unfolding lexemes
loop-mode-init c = (omega arith, refl)

pub returns-then-eq : goal.returns-then-eq
returns-then-eq c = none-lacks c.args.mode c.args.text.now (lefts_in (lexemes c.args.mode c.args.text.now)) c.loop-mode.at (is-end (token_at c.args.mode c.args.text.now c.loop-mode.at).is
    (sym (ap (λ (t : Token). t.kind) c.token_at-t.ensures) ∙ kind-yes _ End (sym c.eq.ensures ∙ c.if-eq.true))) ∙ ap placed c.loop-mode.invariant.1

pub lacking-requires : goal.lacking-requires
lacking-requires c = (c.token_at-t.ensures, kind-no _ End (sym c.eq.ensures ∙ c.if-eq.false), c.requires)

pub returns-then-lacking : goal.returns-then-lacking
returns-then-lacking c =
    let x = is-token (token_at c.args.mode c.args.text.now c.loop-mode.at).is (λ z. kind-no _ End (sym c.eq.ensures ∙ c.if-eq.false) (ap (λ (t : Token). t.kind) c.token_at-t.ensures ∙ z)) in
    this-lacks c.args.mode c.args.text.now (lefts_in (lexemes c.args.mode c.args.text.now)) c.loop-mode.at c.token_at-t.result.start x.0 x.1
    (ap (λ (t : Token). t.start) c.token_at-t.ensures) (sym c.if-lacking.true ∙ c.lacking.ensures x.0 x.1)
    ∙ ap placed c.loop-mode.invariant.1

pub loop-mode-smaller : goal.loop-mode-smaller
loop-mode-smaller c = omega (
  arith,
  (here c.args.mode c.args.text.now c.loop-mode.at c.token_at-t.result c.token_at-t.ensures (kind-no _ End (sym c.eq.ensures ∙ c.if-eq.false))).forth,
  (here c.args.mode c.args.text.now c.loop-mode.at c.token_at-t.result c.token_at-t.ensures (kind-no _ End (sym c.eq.ensures ∙ c.if-eq.false))).within,
)

pub loop-mode-preserved : goal.loop-mode-preserved
loop-mode-preserved c =
    let x = is-token (token_at c.args.mode c.args.text.now c.loop-mode.at).is (λ z. kind-no _ End (sym c.eq.ensures ∙ c.if-eq.false) (ap (λ (t : Token). t.kind) c.token_at-t.ensures ∙ z)) in (
      (here c.args.mode c.args.text.now c.loop-mode.at c.token_at-t.result c.token_at-t.ensures (kind-no _ End (sym c.eq.ensures ∙ c.if-eq.false))).within,
      ap (λ (i : ℕ). unruled (lefts_in (lexemes c.args.mode c.args.text.now)) (lexemes_at c.args.mode c.args.text.now i)) (ap (λ (t : Token). t.next) c.token_at-t.ensures)
          ∙ later-lacks c.args.mode c.args.text.now (lefts_in (lexemes c.args.mode c.args.text.now)) c.loop-mode.at x.0 x.1 (sym c.if-lacking.false ∙ c.lacking.ensures x.0 x.1)
          ∙ c.loop-mode.invariant.1,
    )
