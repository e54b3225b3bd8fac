-- A pass over the bytes counts lines and columns as the definitions do.
use Rattle.std.specs.Prelude.{ℕ, suc, ◌+◌, ◌<◌, ◌≤◌, min, ◌≡◌, refl, List, length, get_or}
use Rattle.std.proofs.Common.{arith, sym, ◌∙◌, ap, ap₂, subst, ⊎_elim}
use Rattle.base_facts.specs.laws.Numbers.{lt-or-ge}
use Rattle.base_lines.specs.declared.Place.{Place}
use Rattle.base_lines.specs.Lines.{line_of, column_of, place_at}
use Rattle.base_lines.specs.steps.Behind.{behind, Counted}
use Rattle.base_lines.specs.laws.Lines.{at-begin, next_place, place-small, past_end}

one_more : (k : ℕ) → suc k ≡ k + 1
one_more k = omega arith

pub counting-begins : (s : List ℕ) (p to : ℕ) → to ≡ min p (length s) → Counted s to 0 (record { line = 1; column = 1 })
counting-begins s p to e =
    record { is = ap₂ (λ (k : ℕ) (c : ℕ). record { line = k; column = c }) (sym (at-begin s).0) (sym (at-begin s).1); reached = omega arith; within = omega (arith, e) }

module _ (s : List ℕ) (to i : ℕ) (at : Place) (c : Counted s to i at) where
  pub counting-small : (at.line ≤ suc i) × (at.column ≤ suc i)
  counting-small =
      let q : (line_of s i ≤ suc i) × (column_of s i ≤ suc i) = place-small s i (omega (arith, c.reached, c.within)) in
      subst (λ (x : Place). (x.line ≤ suc i) × (x.column ≤ suc i)) (sym c.is) q

  pub counting-goes-on : (b : ℕ) (r : Place) → b ≡ get_or s i 0 → r ≡ behind at b → i < to → Counted s to (i + 1) r
  counting-goes-on b r e f l =
      record {
        is = f ∙ ap₂ (λ (x : Place) (y : ℕ). behind x y) c.is e ∙ sym (next_place s i (omega (arith, l, c.within))) ∙ ap (place_at s) (one_more i);
        reached = omega (arith, l);
        within = c.within;
      }

  pub counting-ends : (p : ℕ) → to ≡ min p (length s) → to ≤ i → at ≡ place_at s p
  counting-ends p e l =
      c.is
      ∙ ap (place_at s) (ended c.reached l)
      ∙ ⊎_elim (λ h. ap (place_at s) (omega (arith, e, h))) (λ h. ap (place_at s) (omega (arith, e, h)) ∙ sym (past_end s p (omega (arith, h)))) (lt-or-ge p (length s))
    where
      ended : i ≤ to → to ≤ i → i ≡ to
      ended h f = omega (arith, h, f)
