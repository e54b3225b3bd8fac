-- A loop that stores f i at i, one store a turn, at any type of element. Assumes nothing.
use Rattle.std.specs.Prelude.{◌≡◌, refl, ◌⊎◌, ◌≢◌, List, ℕ, ◌+◌, ◌<◌, length, get_or, set}
use Rattle.std.proofs.Common.{sym, ap, ◌∙◌, subst, inl, inr, ⊎_elim, arith, get_or-set_same, get_or-set_other}
use Rattle.std.proofs.Math.Decide.{ℕ_discrete}
use Rattle.base_facts.specs.laws.Numbers.{same?}

pub fill_more : {A : Type 0} (d : A) (f : ℕ → A) (l : List A) (i : ℕ) (v : A) → ((j : ℕ) → j < i → get_or l j d ≡ f j) → i < length l → v ≡ f i
    → (j : ℕ) → j < i + 1 → get_or (set l i v) j d ≡ f j
fill_more d f l i v h p e j q =
    ⊎_elim (λ s. subst (λ (k : ℕ). get_or (set l i v) k d ≡ f k) (sym s) (get_or-set_same l i v d p ∙ e))
    (λ s. get_or-set_other l i j v d s ∙ h j (omega (arith, s)))
    (same? j i)
