use mathlib.Core.Path.{ap, ◌∙◌}
use Prim.Native.Nat.{ℕ, ◌+◌}
use Rattle.read_tokens.specs.steps.Code.{coded}
use native.Mathlib.Numerals.{add-one}
use Rattle.read_tokens.specs.Chars.{single, Body}
use Rattle.read_tokens.specs.Tokens.{literal_by}
use Rattle.read_tokens.specs.laws.Passing.{from}
use Rattle.read_tokens.proofs.LiteralSteps.{bad-is, literal-none, literal-empty, literal-some}
use Rattle.read_tokens.proofs.literal_token.Goals.{in_default-via-in-Some+else-l-ne0, in_default-via-in_default}
use Rattle.read_tokens.proofs.literal_token.Goals as goal

pub returns-in-Some : goal.returns-in-Some
returns-in-Some c = literal-some c.args.at _ c.in-Some.ensures c.if-l-ne0.true ∙ ap
    (λ (o : Body). coded (literal_by c.args.at o))
    (ap (λ (n : ℕ). from c.args.q single c.args.text.now n) (add-one c.args.at))

pub returns-in_default : goal.returns-in_default
returns-in_default c = c.plain.ensures ∙ bad-is c.args.at ∙ elim c.in_default.branch [
  | in_default-via-in-Some+else-l-ne0 w ↦ literal-empty c.args.at (from c.args.q single c.args.text.now (c.args.at + 1)) w.in-Some.ensures w.if-l-ne0.false
  | in_default-via-in_default w ↦ literal-none c.args.at (from c.args.q single c.args.text.now (c.args.at + 1)) w.in_default.ensures
] ∙ ap (λ (o : Body). coded (literal_by c.args.at o))
    (ap (λ (n : ℕ). from c.args.q single c.args.text.now n) (add-one c.args.at))
