use mathlib.Core.Path.{sym, ap, ◌∙◌}
use mathlib.Core.Bool.{Bool}
use mathlib.Core.List.{List}
use native.Mathlib.Omega.{arith}
use Rattle.read_tokens.specs.Chars.{listed}
use Rattle.read_tokens.specs.Tokens.{some_true, class_token, class_by}
use Rattle.read_tokens.specs.steps.Code.{class_is}
use Rattle.read_tokens.specs.laws.Passing.{from}
use Rattle.read_tokens.proofs.CharSteps.{byte-is}
use Rattle.read_tokens.proofs.ClassSteps.{nothing-listed, no-byte, broken-is, plain-is, turned-is, filled-as, unmarked, painted-behind}
use Rattle.read_tokens.proofs.classes.class_from.Goals as goal

pub returns-in_err-first : goal.returns-in_err-first
returns-in_err-first c = rw c.from_residual.ensures (no-byte c.args.complement c.args.text.now c.args.at c.in_err-first.ensures)

pub returns-then-first-eq93 : goal.returns-then-first-eq93
returns-then-first-eq93 c =
    nothing-listed c.args.complement c.args.text.now c.args.at (byte-is c.args.text.now c.args.at c.in_ok-first.ensures ∙ c.if-first-eq93.true)

pub returns-in_err-next : goal.returns-in_err-next
returns-in_err-next c =
    rw c.from_residual-in_err-next.ensures
    (broken-is _ c.args.complement c.args.text.now c.args.at (unmarked (from 93 listed c.args.text.now c.args.at) _ _ _ c.requires.1 c.in_err-next.ensures))

pub settled-requires : goal.settled-requires
settled-requires c = omega (arith, painted-behind c.args.text.now c.args.at _ _ _ c.requires.0 c.in_ok-next.ensures)

pub settled-requires-2 : goal.settled-requires-2
settled-requires-2 c = omega (arith, painted-behind c.args.text.now c.args.at _ _ _ c.requires.0 c.in_ok-next.ensures)

pub returns-then-complement : goal.returns-then-complement
returns-then-complement c =
    filled-as _ _
    (ap (λ (l : List Bool). class_is (class_token (some_true l) l 0 c.in_ok-next.next)) c.turn.ensures
    ∙ turned-is _ _ c.args.text.now c.args.at (λ x. c.if-first-eq93.false (sym (byte-is c.args.text.now c.args.at c.in_ok-first.ensures) ∙ x))
    (unmarked (from 93 listed c.args.text.now c.args.at) _ _ _ c.requires.1 c.in_ok-next.ensures)
    ∙ ap (λ (x : Bool). class_is (class_by x 0 (from 93 listed c.args.text.now c.args.at))) (sym c.if-complement.true))
    c.settled.ensures

pub returns : goal.returns
returns c =
    filled-as _ _
    (plain-is _ _ c.args.text.now c.args.at (λ x. c.if-first-eq93.false (sym (byte-is c.args.text.now c.args.at c.in_ok-first.ensures) ∙ x))
    (unmarked (from 93 listed c.args.text.now c.args.at) _ _ _ c.requires.1 c.in_ok-next.ensures)
    ∙ ap (λ (x : Bool). class_is (class_by x 0 (from 93 listed c.args.text.now c.args.at))) (sym c.if-complement.false))
    c.settled-2.ensures
