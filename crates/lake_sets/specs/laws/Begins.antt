-- BEGINNING by the kind of an expression of a table. Assumes nothing.
use Rattle.std.specs.Prelude.{ℕ, zero, suc, ◌≤◌, ◌≡◌, refl, Bool, true}
use Rattle.std.proofs.Common.{arith}
use Rattle.base_words.specs.Set.{empty}
use Rattle.grammar.specs.Parts.{Part, terminal, occurs, sequence, choice, option, repeat, repeat1, affirms, denies}
use Rattle.grammar_table.specs.Table.{part_by}
use Rattle.lake_rules.specs.Beginning.{Beginning, begin, root_eps, begin_by}
use Rattle.lake_rules.specs.laws.Wholes.{Ok}
use Rattle.lake_sets.specs.steps.Steps.{Small}

-- under `&` and `!`: {ε}
pub rest : (m : ℕ → Bool) (at : ℕ → Beginning) (k l r : ℕ) → (k ≡ 0 → ⊥) → (k ≡ 1 → ⊥) → (k ≡ 2 → ⊥) → (k ≡ 3 → ⊥) → (k ≡ 4 → ⊥) → (k ≡ 5 → ⊥) → (k ≡ 6 → ⊥)
    → begin_by m at (part_by k l r) ≡ begin empty true
unfolding part_by
rest m at zero l r a b c d e f g = absurd (a refl)
rest m at (suc zero) l r a b c d e f g = absurd (b refl)
rest m at (suc (suc zero)) l r a b c d e f g = absurd (c refl)
rest m at (suc (suc (suc zero))) l r a b c d e f g = absurd (d refl)
rest m at (suc (suc (suc (suc zero)))) l r a b c d e f g = absurd (e refl)
rest m at (suc (suc (suc (suc (suc zero))))) l r a b c d e f g = absurd (f refl)
rest m at (suc (suc (suc (suc (suc (suc zero)))))) l r a b c d e f g = absurd (g refl)
rest m at (suc (suc (suc (suc (suc (suc (suc zero))))))) l r a b c d e f g = refl
rest m at (suc (suc (suc (suc (suc (suc (suc (suc k)))))))) l r a b c d e f g = refl

-- `?`, `*`, `&` and `!` have ε
pub rest-eps : (m : ℕ → Bool) (at : ℕ → Beginning) (k l r : ℕ) → (k ≡ 0 → ⊥) → (k ≡ 1 → ⊥) → (k ≡ 2 → ⊥) → (k ≡ 3 → ⊥) → (k ≡ 6 → ⊥)
    → (begin_by m at (part_by k l r)).eps ≡ true
unfolding part_by
rest-eps m at zero l r a b c d e = absurd (a refl)
rest-eps m at (suc zero) l r a b c d e = absurd (b refl)
rest-eps m at (suc (suc zero)) l r a b c d e = absurd (c refl)
rest-eps m at (suc (suc (suc zero))) l r a b c d e = absurd (d refl)
rest-eps m at (suc (suc (suc (suc zero)))) l r a b c d e = refl
rest-eps m at (suc (suc (suc (suc (suc zero))))) l r a b c d e = refl
rest-eps m at (suc (suc (suc (suc (suc (suc zero)))))) l r a b c d e = absurd (e refl)
rest-eps m at (suc (suc (suc (suc (suc (suc (suc zero))))))) l r a b c d e = refl
rest-eps m at (suc (suc (suc (suc (suc (suc (suc (suc k)))))))) l r a b c d e = refl

pub small : (r x i : ℕ) → r ≤ 64 → x ≤ 64 → (p : Part) → Ok r x i p → Small p
small r x i a b (terminal y) h = omega arith
small r x i a b (occurs s) h = omega arith
small r x i a b (sequence l u) h = tt
small r x i a b (choice l u) h = tt
small r x i a b (option l) h = tt
small r x i a b (repeat l) h = tt
small r x i a b (repeat1 l) h = tt
small r x i a b (affirms l) h = tt
small r x i a b (denies l) h = tt

-- ε of a body, where each expression's is the same
pub root-eps : (k : ℕ) (at to : ℕ → Beginning) → ((j : ℕ) → (at j).eps ≡ (to j).eps) → root_eps at k ≡ root_eps to k
root-eps zero at to h = refl
root-eps (suc e) at to h = h e
