-- The smaller of a bound and a number. Assumes nothing.
use Rattle.std.specs.Prelude.{ℕ, ◌≤◌, ◌<◌, min, ◌≡◌, refl, Bool, true, false, cond, ltb}
use Rattle.std.proofs.Common.{sym, ap, ◌∙◌, ⊎_elim, arith, lt-ltb, le-ltb, ltb-true}
use Rattle.base_facts.specs.laws.Numbers.{lt-or-ge}
use Rattle.grammar_table.specs.steps.Rows.{cap}

pub cap-low : (a b : ℕ) → a < b → a ≡ cap b a
unfolding cap
cap-low a b h = ap (λ (x : Bool). cond x a b) (sym (lt-ltb a b h))

pub cap-high : (a b : ℕ) → b ≤ a → b ≡ cap b a
unfolding cap
cap-high a b h = ap (λ (x : Bool). cond x a b) (sym (le-ltb a b h))

pub cap-le : (a b : ℕ) → cap b a ≤ b
unfolding cap
cap-le a b = by (ltb a b) refl
  where
    by : (x : Bool) → ltb a b ≡ x → cond x a b ≤ b
    by true e = omega (arith, ltb-true a b e)
    by false e = omega arith

pub cap-min : (a b : ℕ) → min a b ≡ cap b a
cap-min a b =
    ⊎_elim (λ h. let e : min a b ≡ a = omega arith in e ∙ cap-low a b h) (λ h. let e : min a b ≡ b = omega arith in e ∙ cap-high a b h) (lt-or-ge a b)
