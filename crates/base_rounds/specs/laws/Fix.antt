-- The least fixpoint of a monotone round by iteration from the bottom, over any state with a size. Once for all.
-- `iter k` is round k. The first k whose next round is equal is unique, is at most the greatest size, and its round is contained in every state that a
-- round does not leave. Assumes nothing.
use Rattle.base_facts.specs.laws.Numbers.{lt-or-ge}
use Rattle.base_rounds.specs.Rounds.{iter, First}
use Rattle.std.specs.Prelude.{◌≡◌, refl, ◌⊎◌, ℕ, zero, suc, ◌+◌, ◌≤◌, ◌<◌}
use Rattle.std.proofs.Common.{sym, ap, ◌∙◌, subst, inl, inr, ⊎_elim, le_refl, le_trans, arith}
use Rattle.std.proofs.Math.Decide.{dec_lt}

-- the count is determined
pub first-unique : {S : Type 0} (F : S → S) (b : S) (j k : ℕ) → First F b j → First F b k → j ≡ k
first-unique F b j k p q =
    ⊎_elim (λ h. absurd (q.before j h p.stops))
    (λ h. ⊎_elim (λ l. absurd (p.before k l q.stops)) (λ l. omega arith) (lt-or-ge k j)) (lt-or-ge j k)

-- a state with an order and a size; Good is what every round keeps (a length, words that fit)
pub record Lattice (S : Type 0) : Type 1 where
  pub Le : S → S → Type 0
  pub Good : S → Type 0
  pub le_rfl : (x : S) → Le x x
  pub size : S → ℕ
  pub top : ℕ
  pub bounded : (x : S) → Good x → size x ≤ top
  pub strict : (x y : S) → Good x → Good y → Le x y → size y ≤ size x → y ≡ x

module _ {S : Type 0} (L : Lattice S) (F : S → S) (b : S)
    (good-b : L.Good b) (good-F : (x : S) → L.Good x → L.Good (F x))
    (mono : (x y : S) → L.Good x → L.Good y → L.Le x y → L.Le (F x) (F y)) where
  pub iter-good : (k : ℕ) → L.Good (iter F b k)
  iter-good zero = good-b
  iter-good (suc k) = good-F (iter F b k) (iter-good k)

  -- contained in each state that is good, above the start and that a round does not leave
  pub iter-below : (y : S) → L.Good y → L.Le b y → ((x : S) → L.Le x (F y) → L.Le x y) → (k : ℕ) → L.Le (iter F b k) y
  iter-below y g p q zero = p
  iter-below y g p q (suc k) = q (F (iter F b k)) (mono (iter F b k) y (iter-good k) g (iter-below y g p q k))

  module _ (start : (x : S) → L.Good x → L.Le b x) where
    pub ascends : (k : ℕ) → L.Le (iter F b k) (F (iter F b k))
    ascends zero = start (F b) (good-F b good-b)
    ascends (suc k) = mono (iter F b k) (F (iter F b k)) (iter-good k) (good-F (iter F b k) (iter-good k)) (ascends k)

    -- while no round was equal to its next, each added something
    pub climbs : (k : ℕ) → ((j : ℕ) → j < k → F (iter F b j) ≡ iter F b j → ⊥) → k ≤ L.size (iter F b k)
    climbs zero h = omega arith
    climbs (suc k) h =
        let ih : k ≤ L.size (iter F b k) = climbs k (λ j l. h j (omega arith)) in
        ⊎_elim (λ p. le_trans (omega arith) p)
        (λ p. absurd (h k (le_refl (suc k)) (L.strict (iter F b k) (F (iter F b k)) (iter-good k) (good-F (iter F b k) (iter-good k)) (ascends k) p)))
        (lt-or-ge (L.size (iter F b k)) (L.size (F (iter F b k))))

    -- so the count of rounds is at most the greatest size
    pub rounds-bound : (k : ℕ) → ((j : ℕ) → j < k → F (iter F b j) ≡ iter F b j → ⊥) → k ≤ L.top
    rounds-bound k h = le_trans (climbs k h) (L.bounded (iter F b k) (iter-good k))

    -- there is a first equal round, where equality can be decided
    module _ (same : (x y : S) → Dec (x ≡ y)) where
      more : (k : ℕ) → ((j : ℕ) → j < k → F (iter F b j) ≡ iter F b j → ⊥) → (F (iter F b k) ≡ iter F b k → ⊥) → (j : ℕ) → j < suc k → F (iter F b j) ≡ iter F b j → ⊥
      more k h n j l = ⊎_elim (λ p. h j p) (λ p. let q : k ≡ j = omega arith in subst (λ (m : ℕ). F (iter F b m) ≡ iter F b m → ⊥) q n) (lt-or-ge j k)

      find : (fuel k : ℕ) → L.top < fuel + k → ((j : ℕ) → j < k → F (iter F b j) ≡ iter F b j → ⊥) → (m : ℕ) × First F b m
      find zero k l h = let z : ⊥ = omega (arith, rounds-bound k h) in absurd z
      find (suc f) k l h =
          elim (same (F (iter F b k)) (iter F b k)) [ yes e ↦ (k, record { stops = e; before = h }) | no n ↦ find f (suc k) (omega arith) (more k h n) ]

      pub first-exists : (m : ℕ) × First F b m
      first-exists = find (suc L.top) zero (omega arith) (λ j p. let z : ⊥ = omega arith in absurd z)
