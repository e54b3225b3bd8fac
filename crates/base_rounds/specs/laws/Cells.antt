-- Lists of cells as a state: n cells, each of a lattice with joins. Assumes nothing.
use Rattle.std.specs.Prelude.{◌≡◌, refl, List, [], ◌∷◌, ℕ, zero, suc, ◌+◌, ◌*◌, ◌≤◌, ◌<◌, length, get_or}
use Rattle.std.proofs.Common.{sym, ap, ap₂, ◌∙◌, subst, zero-mul, suc-mul, arith}
pub use Rattle.base_rounds.specs.Sets.{Every}
use Rattle.base_rounds.specs.laws.Fix.{Lattice}

-- a lattice with a bottom, transitivity and joins, and a size that a step up makes larger
pub record Joins {A : Type 0} (L : Lattice A) (join : A → A → A) (bot : A) : Type 0 where
  pub trans : (x y z : A) → L.Le x y → L.Le y z → L.Le x z
  pub size_mono : (x y : A) → L.Le x y → L.size x ≤ L.size y
  pub join-l : (x y : A) → L.Good x → L.Good y → L.Le x (join x y)
  pub join-r : (x y : A) → L.Good x → L.Good y → L.Le y (join x y)
  pub join-least : (x y z : A) → L.Good x → L.Good y → L.Le x z → L.Le y z → L.Le (join x y) z
  pub join-good : (x y : A) → L.Good x → L.Good y → L.Good (join x y)
  pub bot-good : L.Good bot
  pub bot-le : (x : A) → L.Good x → L.Le bot x

module _ {A : Type 0} (L : Lattice A) (join : A → A → A) (bot d : A) (J : Joins L join bot) where
  abbrev pub Below : ℕ → List A → List A → Type 0
  Below n s t = (i : ℕ) → i < n → L.Le (get_or s i d) (get_or t i d)

  abbrev pub sum : List A → ℕ
  sum [] = 0
  sum (x ∷ s) = L.size x + sum s

  tail : (P : A → Type 0) (n : ℕ) (x : A) (s : List A) → Every P d (suc n) (x ∷ s) → Every P d n s
  tail P n x s e = record { long = omega (arith, e.long); each = λ i p. e.each (suc i) (omega arith) }

  pub sum-le : (n : ℕ) (s : List A) → Every L.Good d n s → sum s ≤ n * L.top
  sum-le n [] e = omega arith
  sum-le zero (x ∷ s) e = let z : ⊥ = omega (arith, e.long) in absurd z
  sum-le (suc n) (x ∷ s) e =
      rw (suc-mul n L.top) (omega (arith, sum-le n s (tail L.Good n x s e), L.bounded x (e.each 0 (omega arith))))

  sum_mono : (n : ℕ) (s t : List A) → length s ≡ n → length t ≡ n → Below n s t → sum s ≤ sum t
  sum_mono n [] t p q h = omega arith
  sum_mono zero (x ∷ s) t p q h = let z : ⊥ = omega arith in absurd z
  sum_mono (suc n) (x ∷ s) [] p q h = let z : ⊥ = omega arith in absurd z
  sum_mono (suc n) (x ∷ s) (y ∷ t) p q h =
      omega (arith, J.size_mono x y (h 0 (omega arith)), sum_mono n s t (omega arith) (omega arith) (λ i l. h (suc i) (omega arith)))

  pub sum-strict : (n : ℕ) (s t : List A) → Every L.Good d n s → Every L.Good d n t → Below n s t → sum t ≤ sum s → t ≡ s
  sum-strict n [] [] f g h l = refl
  sum-strict n [] (y ∷ t) f g h l = let z : ⊥ = omega (arith, f.long, g.long) in absurd z
  sum-strict n (x ∷ s) [] f g h l = let z : ⊥ = omega (arith, f.long, g.long) in absurd z
  sum-strict zero (x ∷ s) (y ∷ t) f g h l = let z : ⊥ = omega (arith, f.long) in absurd z
  sum-strict (suc n) (x ∷ s) (y ∷ t) f g h l =
      let m : sum s ≤ sum t = sum_mono n s t (omega (arith, f.long)) (omega (arith, g.long)) (λ i p. h (suc i) (omega arith)) in
      let k : L.size x ≤ L.size y = J.size_mono x y (h 0 (omega arith)) in
      ap₂ (λ (u : A) (v : List A). u ∷ v)
      (L.strict x y (f.each 0 (omega arith)) (g.each 0 (omega arith)) (h 0 (omega arith)) (omega arith))
      (sum-strict n s t (tail L.Good n x s f) (tail L.Good n y t g) (λ i p. h (suc i) (omega arith)) (omega arith))

  abbrev pub cells : ℕ → Lattice (List A)
  cells n = record {
    Le = Below n;
    Good = Every L.Good d n;
    le_rfl = λ x i p. L.le_rfl (get_or x i d);
    size = sum;
    top = n * L.top;
    bounded = sum-le n;
    strict = sum-strict n;
  }
