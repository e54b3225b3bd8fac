use mathlib.Core.Path.{sym, ◌∙◌}
use native.Mathlib.Omega.{arith}
use borrow.Author.Tests.{not-true, not-false}
use Rattle.read_tokens.proofs.CharSteps.{inside, is-byte, not-byte}
use Rattle.read_tokens.proofs.LiteralSteps.{bad-is}
use Rattle.read_tokens.proofs.TokenSteps.{letter-yes, letter-no, lake-end, lake-first, lake-open, lake-is}
use Rattle.read_tokens.proofs.lake_token.Goals.{then-text-from-via-then-text-from, then-text-from-via-else-text-from+then-ne}
use Rattle.read_tokens.proofs.lake_token.Goals as goal

pub returns-then-text-from : goal.returns-then-text-from
returns-then-text-from c =
    c.plain.ensures
    ∙ bad-is c.args.at
    ∙ elim c.then-text-from.branch [
      | then-text-from-via-then-text-from w ↦ lake-end c.args.text.now c.args.at w.if-text-from.true
      | then-text-from-via-else-text-from+then-ne w ↦
          lake-first c.args.text.now c.args.at w.if-text-from.false (λ x. letter-no _ (not-true _ (sym w.ne.ensures ∙ w.if-ne.true)) (w.kind_of.ensures ∙ x))
    ]

pub returns-then-ne-2 : goal.returns-then-ne-2
returns-then-ne-2 c =
    c.plain-then-ne-2.ensures
    ∙ bad-is c.args.at
    ∙ lake-open c.args.text.now c.args.at c.if-text-from.false (sym c.kind_of.ensures ∙ letter-yes _ (not-false _ (sym c.ne.ensures ∙ c.if-ne.false))) _
    c.name_end-end.ensures (not-byte c.args.text.now _ 62 (omega arith) c.byte_at.ensures (not-true _ (sym c.ne-2.ensures ∙ c.if-ne-2.true)))

pub overflow_add-result : goal.overflow_add-result
overflow_add-result c =
    omega (arith, inside c.args.text.now _ 62 (is-byte c.args.text.now _ 62 c.byte_at.ensures (not-false _ (sym c.ne-2.ensures ∙ c.if-ne-2.false))) (omega arith))

pub returns : goal.returns
returns c =
    lake-is c.args.text.now c.args.at c.if-text-from.false (sym c.kind_of.ensures ∙ letter-yes _ (not-false _ (sym c.ne.ensures ∙ c.if-ne.false))) _
    c.name_end-end.ensures (is-byte c.args.text.now _ 62 c.byte_at.ensures (not-false _ (sym c.ne-2.ensures ∙ c.if-ne-2.false)))
