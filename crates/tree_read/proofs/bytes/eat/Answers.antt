use Rattle.std.proofs.Common.{ℕ, ◌-◌, ◌≡◌, length, drop, sym, ◌∙◌, arith, ⊎_elim, take_all, true≢false}
use Rattle.std.proofs.lemmas.List.{length-drop}
use Rattle.std.proofs.lemmas.Slice.Eq.{starts_is}
use Rattle.std.proofs.lemmas.Bool.Decides.{Decides-eqb}
use Rattle.tree_read.specs.laws.Eaten.{unreached, gone, all_stand, none_stand}
use Rattle.tree_read.proofs.bytes.eat.Goals.{In_ok-get}
use Rattle.tree_read.proofs.bytes.eat.Goals as goal

-- what is left of the text
left : (c : In_ok-get) → c.in_ok-get.field-0.now ≡ drop c.args.at c.args.json.now
left c = c.in_ok-get.ensures.lookup.0.2 ∙ take_all (length c.args.json.now - c.args.at) (drop c.args.at c.args.json.now) (omega (arith, length-drop c.args.at c.args.json.now))

pub returns-in_err-get-clause-place : goal.returns-in_err-get-clause-place
returns-in_err-get-clause-place c = unreached c.args.json.now c.from_residual.ensures
    (gone c.args.json.now c.args.bytes.now c.args.at (⊎_elim (λ h. h) (λ h. absurd (omega (arith, h))) c.in_err-get.ensures.lookup.0))

pub returns-then-starts_with-clause-place : goal.returns-then-starts_with-clause-place
returns-then-starts_with-clause-place c = all_stand c.args.json.now c.args.bytes.now _ c.args.at c.in_ok-get.ensures.lookup.0.0
    (sym (left (goal.at.returns-then-starts_with-clause-place c).In_ok-get)
    ∙ (starts_is Decides-eqb c.in_ok-get.field-0.now c.args.bytes.now c.starts_with.result c.starts_with.ensures.value).0 c.if-starts_with.true)

pub returns-else-starts_with-clause-place : goal.returns-else-starts_with-clause-place
returns-else-starts_with-clause-place c = none_stand c.args.json.now c.args.bytes.now c.args.at c.in_ok-get.ensures.lookup.0.0
    (λ rest g. true≢false (sym ((starts_is Decides-eqb c.in_ok-get.field-0.now c.args.bytes.now c.starts_with.result c.starts_with.ensures.value).1 rest
    (left (goal.at.returns-else-starts_with-clause-place c).In_ok-get ∙ g)) ∙ c.if-starts_with.false))
