use Rattle.std.proofs.Common.{arith, refl, ◌≡◌, ap, ap₂, sym, ◌∙◌, ℕ, List, [], ◌∷◌, Bool, false, get_or}
use Rattle.base_words.specs.Set.{union_of, empty}
use Rattle.grammar_table.specs.Table.{part_by}
use Rattle.lake_rules.specs.Beginning.{Beginning, begin_by}
use Rattle.lake_sets.specs.steps.Steps.{pair_at}
use Rattle.lake_sets.specs.laws.Begins.{rest}
use Rattle.lake_sets.proofs.Spread.{of_three}
use Rattle.lake_sets.proofs.begin_set.Goals as goal

pub returns-in-0 : goal.returns-in-0
unfolding part_by
returns-in-0 c = rw c.in-0.is (λ h. ap (λ (x : ℕ). 0 ∷ x ∷ []) (c.bit.ensures h))

pub returns-in-1 : goal.returns-in-1
unfolding part_by
returns-in-1 c = rw c.in-1.is (λ h. ap (λ (x : ℕ). x ∷ 0 ∷ []) (c.bit-in-1.ensures h))

pub returns-then-flag_at : goal.returns-then-flag_at
unfolding part_by
returns-then-flag_at c = rw (c.in-2.is, ← c.flag_at.ensures, c.if-flag_at.true)
    (λ h. c.union.ensures ∙ ap₂ union_of c.set_at-first.ensures c.set_at.ensures)

pub returns-else-flag_at : goal.returns-else-flag_at
unfolding part_by
returns-else-flag_at c = rw (c.in-2.is, ← c.flag_at.ensures, c.if-flag_at.false) (λ h. c.set_at-first.ensures)

pub returns-in-3 : goal.returns-in-3
unfolding part_by
returns-in-3 c = rw c.in-3.is (λ h. c.union-in-3.ensures ∙ ap₂ union_of c.set_at-in-3.ensures c.set_at-in-3-2.ensures)

pub returns-in-4 : goal.returns-in-4
unfolding part_by
returns-in-4 c = λ h. c.set_at-in-4.ensures ∙ of_three (λ (k : ℕ). get_or c.args.sets.now c.args.k.left empty ≡ (begin_by (λ x. false) (pair_at c.args.sets.now c.args.eps.now)
    (part_by k c.args.k.left c.args.k.right)).set) c.args.k.op (omega arith) (omega arith) refl refl refl

pub returns-in_default : goal.returns-in_default
returns-in_default c = λ h. sym (ap (λ (z : Beginning). z.set) (rest (λ x. false) (pair_at c.args.sets.now c.args.eps.now) c.args.k.op c.args.k.left c.args.k.right
    (λ e. let z : ⊥ = omega (arith, e) in z) (λ e. let z : ⊥ = omega (arith, e) in z) (λ e. let z : ⊥ = omega (arith, e) in z) (λ e. let z : ⊥ = omega (arith, e) in z) (λ e. let z
    : ⊥ = omega (arith, e) in z) (λ e. let z : ⊥ = omega (arith, e) in z) (λ e. let z : ⊥ = omega (arith, e) in z)))
