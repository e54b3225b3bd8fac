use mathlib.Core.Path.{sym, ap, ◌∙◌}
use Prim.Native.Nat.{suc}
use native.Mathlib.Omega.{arith}
use lib.ListN.{drop}
use Rattle.read_tokens.specs.steps.Code.{coded}
use Rattle.read_tokens.specs.declared.Mode.{Mode}
use Rattle.read_tokens.specs.Tokens.{angle}
use Rattle.read_tokens.proofs.CharSteps.{is-byte, not-byte}
use Rattle.read_tokens.proofs.LiteralSteps.{bad-is}
use Rattle.read_tokens.proofs.TokenSteps.{less-arrow, less-plain, less-lake}
use Rattle.read_tokens.proofs.less_token.Goals as goal

pub returns-then-eq : goal.returns-then-eq
returns-then-eq c = c.plain.ensures ∙ less-arrow c.args.text.now c.args.at c.args.mode (is-byte c.args.text.now _ 45 c.byte_at.ensures (sym c.eq.ensures ∙ c.if-eq.true))

pub returns-in-Lake : goal.returns-in-Lake
returns-in-Lake c =
    c.lake_token.ensures
    ∙ less-lake c.args.text.now c.args.at (not-byte c.args.text.now _ 45 (omega arith) c.byte_at.ensures (sym c.eq.ensures ∙ c.if-eq.false))
    ∙ ap (λ (m : Mode). coded (angle m c.args.at (drop (suc c.args.at) c.args.text.now))) (sym c.in-Lake.is)

pub returns-in-Plain : goal.returns-in-Plain
returns-in-Plain c =
    c.plain-in-Plain.ensures
    ∙ bad-is c.args.at
    ∙ less-plain c.args.text.now c.args.at (not-byte c.args.text.now _ 45 (omega arith) c.byte_at.ensures (sym c.eq.ensures ∙ c.if-eq.false))
    ∙ ap (λ (m : Mode). coded (angle m c.args.at (drop (suc c.args.at) c.args.text.now))) (sym c.in-Plain.is)
