use Prim.Native.Nat.{ℕ}
use mathlib.Core.Path.{refl, ap, ◌∙◌, subst}
use mathlib.Core.Bool.{false}
use mathlib.Core.List.{List}
use lib.ListN.{set}
use Rattle.read_grammar.specs.steps.Promises.{Named}
use Rattle.read_grammar.specs.laws.Whole.{too_many, built}
use Rattle.read_grammar.proofs.Reader.fill.Goals as goal

pub returns-then-n-gt64 : goal.returns-then-n-gt64
returns-then-n-gt64 c =
    let r = c.args.self.now in
    too_many (subst (λ (l : List ℕ). Named false r.mode r.text.now l c.mark_all.new.t)
    (c.put-3.ensures ∙ ap (λ (l : List ℕ). set l 2 0) (c.put-2.ensures ∙ ap (λ (l : List ℕ). set l 1 0) c.put.ensures))
    c.mark_all.ensures) c.mark_all-2.ensures c.symbols-n.ensures.0 c.if-n-gt64.true _ refl

pub returns : goal.returns
returns c =
    let r = c.args.self.now in
    built (subst (λ (l : List ℕ). Named false r.mode r.text.now l c.mark_all.new.t)
    (c.put-3.ensures ∙ ap (λ (l : List ℕ). set l 2 0) (c.put-2.ensures ∙ ap (λ (l : List ℕ). set l 1 0) c.put.ensures))
    c.mark_all.ensures) c.mark_all-2.ensures c.symbols-n.ensures.0 c.note_any.ensures c.rules.ensures c.terminals.ensures.0 c.expressions.ensures.0
    _ refl refl refl
