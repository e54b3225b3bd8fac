use mathlib.Core.Path.{sym, ap, ◌∙◌}
use native.Mathlib.Omega.{arith}
use denote.Enum.Bare.{sameb}
use Rattle.read_tokens.specs.contracts.Kind.{the_type}
use Rattle.read_tokens.specs.declared.Kind.TheVariants.{Arrow}
use Rattle.read_tokens.specs.declared.Token.{Token}
use Rattle.read_tokens.specs.Token as spec
use Rattle.read_tokens.specs.steps.Code.{arrow_is}
use Rattle.read_tokens.specs.laws.Tags.{arrow-kind}
use Rattle.read_tokens.proofs.CharSteps.{is-byte, same-byte}
use Rattle.read_tokens.proofs.TokenSteps.{token-moved, less-at}
use Rattle.read_tokens.proofs.arrow_at.Goals as goal

pub returns-then-eq : goal.returns-then-eq
returns-then-eq c =
    c.eq-then-eq.ensures
    ∙ same-byte c.args.text.now _ 45 (omega arith) c.byte_at-then-eq.ensures
    ∙ less-at c.args.mode c.args.text.now c.spaces-i.result (is-byte c.args.text.now _ 60 c.byte_at.ensures (sym c.eq.ensures ∙ c.if-eq.true))
    ∙ ap (λ (t : spec.Token). arrow_is t.is) (token-moved c.args.mode c.args.text.now c.spaces-i.result c.args.at c.spaces-i.ensures)

pub returns : goal.returns
returns c =
    c.eq-2.ensures
    ∙ ap (λ (t : Token). sameb the_type t.kind Arrow) c.token_at.ensures
    ∙ arrow-kind _
    ∙ ap (λ (t : spec.Token). arrow_is t.is) (token-moved c.args.mode c.args.text.now c.spaces-i.result c.args.at c.spaces-i.ensures)
