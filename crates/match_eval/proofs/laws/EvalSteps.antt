-- The evaluation step by step, in the form in which code has it: a and b are what code holds where the definition has x and k, and tests are as branches leave them.
-- Assumes nothing.
use Rattle.std.specs.Prelude.{ℕ, zero, suc, ◌+◌, ◌-◌, ◌*◌, ◌≤◌, ◌<◌, ◌≡◌, refl, Bool, true, false, List, ◌∷◌, length, get_or}
use Rattle.std.proofs.Common.{ap, ◌∙◌, sym as flip, arith, sub-one}
use Rattle.std.proofs.Math.Numerals.{add-one}
use borrow.Author.Tests.{lt-ltb, le-ltb, le-leb, lt-leb, eq-eqb, ne_eqb}
use Rattle.read_tokens.specs.Token.{any, literal, class}
use Rattle.match_eval.specs.Eval.{stands, leaf_at, cell_at, join_of, seq_of, alt_of, step_of, rep, plus_of, opt_of, ahead_of, never_of}

pub less_one : (n : ℕ) → suc n - 1 ≡ n
less_one n = sub-one (suc n)

-- ── terminals ──
module _ (s : List ℕ) (p : ℕ) where
  pub any-takes : p < length s → 2 ≡ leaf_at s any p
  unfolding leaf_at
  any-takes h = rw (lt-ltb p (length s) h)

  pub any-fails : length s ≤ p → 0 ≡ leaf_at s any p
  unfolding leaf_at
  any-fails h = rw (le-ltb p (length s) h)

  pub class-ends : (m : List Bool) → length s ≤ p → 0 ≡ leaf_at s (class m) p
  unfolding leaf_at
  class-ends m h = rw (le-ltb p (length s) h)

  pub class-takes : (m : List Bool) → p < length s → get_or m (get_or s p 0) false ≡ true → 2 ≡ leaf_at s (class m) p
  unfolding leaf_at
  class-takes m h g = rw (lt-ltb p (length s) h, g)

  pub class-fails : (m : List Bool) → p < length s → get_or m (get_or s p 0) false ≡ false → 0 ≡ leaf_at s (class m) p
  unfolding leaf_at
  class-fails m h g = rw (lt-ltb p (length s) h, g)

  pub literal-takes : (bs : List ℕ) → true ≡ stands s p bs → length bs + 1 ≡ leaf_at s (literal bs) p
  unfolding leaf_at
  literal-takes bs h = rw (← h) (add-one (length bs))

  pub literal-fails : (bs : List ℕ) → false ≡ stands s p bs → 0 ≡ leaf_at s (literal bs) p
  unfolding leaf_at
  literal-fails bs h = rw (← h)

  -- the loop over a literal's bytes: b is the first that is left
  pub stands-ends : (b : ℕ) (bs : List ℕ) → length s ≤ p → false ≡ stands s p (b ∷ bs)
  unfolding stands
  stands-ends b bs h = rw (le-ltb p (length s) h)

  pub stands-differs : (b : ℕ) (bs : List ℕ) → p < length s → (get_or s p 0 ≡ b → ⊥) → false ≡ stands s p (b ∷ bs)
  unfolding stands
  stands-differs b bs h f = rw (lt-ltb p (length s) h, ne_eqb (get_or s p 0) b f)

  pub stands-more : (b : ℕ) (bs : List ℕ) → p < length s → get_or s p 0 ≡ b → stands s (p + 1) bs ≡ stands s p (b ∷ bs)
  unfolding stands
  stands-more b bs h e = rw (lt-ltb p (length s) h, eq-eqb (get_or s p 0) b e, add-one p)

-- ── symbols: v is what stands in the cell ──
module _ (s cs : List ℕ) (n r p : ℕ) where
  pub cell-past : n ≤ r → 0 ≡ cell_at s cs n r p
  unfolding cell_at
  cell-past h = rw (le-ltb r n h)

  pub cell-over : (v : ℕ) → r < n → v ≡ get_or cs (p * n + r) 0 → length s - p + 1 < v → 0 ≡ cell_at s cs n r p
  unfolding cell_at
  cell-over v h e g = rw (lt-ltb r n h, ← e, lt-leb v (length s - p + 1) g)

  pub cell-is : (v : ℕ) → r < n → v ≡ get_or cs (p * n + r) 0 → v ≤ length s - p + 1 → v ≡ cell_at s cs n r p
  unfolding cell_at
  cell-is v h e g = rw (lt-ltb r n h, ← e, le-leb v (length s - p + 1) g)

-- ── operators ──
join-fails : (n b : ℕ) → b ≡ 0 → 0 ≡ join_of n b
unfolding join_of
join-fails n b h = rw h

join-takes : (n b : ℕ) → (b ≡ 0 → ⊥) → suc n + b - 1 ≡ join_of n b
unfolding join_of
join-takes n zero f = absurd (f refl)
join-takes n (suc m) f = omega arith

pub seq-left : (x : ℕ) (k : ℕ → ℕ) (a : ℕ) → a ≡ x → a ≡ 0 → 0 ≡ seq_of x k
unfolding seq_of
seq-left x k a h z = rw (← h, z)

pub seq-right : (x : ℕ) (k : ℕ → ℕ) (a b : ℕ) → a ≡ x → (a ≡ 0 → ⊥) → b ≡ k (a - 1) → b ≡ 0 → 0 ≡ seq_of x k
unfolding seq_of
seq-right x k zero b h f g z = absurd (f refl)
seq-right x k (suc n) b h f g z = rw (← h) (join-fails n (k n) (ap k (flip (less_one n)) ∙ flip g ∙ z))

pub seq-both : (x : ℕ) (k : ℕ → ℕ) (a b : ℕ) → a ≡ x → (a ≡ 0 → ⊥) → b ≡ k (a - 1) → (b ≡ 0 → ⊥) → a + b - 1 ≡ seq_of x k
unfolding seq_of
seq-both x k zero b h f g z = absurd (f refl)
seq-both x k (suc n) b h f g z = rw (← h) (join-takes n b z ∙ ap (join_of n) (g ∙ ap k (less_one n)))

pub alt-left : (x : ℕ) (k : ℕ → ℕ) (a : ℕ) → a ≡ x → (a ≡ 0 → ⊥) → a ≡ alt_of x k
unfolding alt_of
alt-left x k zero h f = absurd (f refl)
alt-left x k (suc n) h f = rw (← h)

pub alt-right : (x : ℕ) (k : ℕ → ℕ) (a b : ℕ) → a ≡ x → a ≡ 0 → b ≡ k 0 → b ≡ alt_of x k
unfolding alt_of
alt-right x k a b h z g = rw (← h, z) g

pub plus-fails : (x : ℕ) (k : ℕ → ℕ) (a : ℕ) → a ≡ x → a ≡ 0 → 0 ≡ plus_of x k
unfolding plus_of
plus-fails x k a h z = rw (← h, z)

pub plus-takes : (x : ℕ) (k : ℕ → ℕ) (a b : ℕ) → a ≡ x → (a ≡ 0 → ⊥) → b ≡ k (a - 1) → a + b ≡ plus_of x k
unfolding plus_of
plus-takes x k zero b h f g = absurd (f refl)
plus-takes x k (suc n) b h f g = rw (← h) (omega (arith, g, ap k (less_one n)))

pub opt-fails : (x a : ℕ) → a ≡ x → a ≡ 0 → 1 ≡ opt_of x
unfolding opt_of
opt-fails x a h z = rw (← h, z)

pub opt-takes : (x a : ℕ) → a ≡ x → (a ≡ 0 → ⊥) → a ≡ opt_of x
unfolding opt_of
opt-takes x zero h f = absurd (f refl)
opt-takes x (suc n) h f = rw (← h)

pub ahead-fails : (x a : ℕ) → a ≡ x → a ≡ 0 → 0 ≡ ahead_of x
unfolding ahead_of
ahead-fails x a h z = rw (← h, z)

pub ahead-takes : (x a : ℕ) → a ≡ x → (a ≡ 0 → ⊥) → 1 ≡ ahead_of x
unfolding ahead_of
ahead-takes x zero h f = absurd (f refl)
ahead-takes x (suc n) h f = rw (← h)

pub never-takes : (x a : ℕ) → a ≡ x → a ≡ 0 → 1 ≡ never_of x
unfolding never_of
never-takes x a h z = rw (← h, z)

pub never-fails : (x a : ℕ) → a ≡ x → (a ≡ 0 → ⊥) → 0 ≡ never_of x
unfolding never_of
never-fails x zero h f = absurd (f refl)
never-fails x (suc n) h f = rw (← h)

-- rounds: j of them are left at q
pub rep-ends : (f : ℕ → ℕ) (j q a : ℕ) → a ≡ f q → a ≤ 1 → 0 ≡ rep j f q
unfolding rep step_of
rep-ends f zero q a h l = refl
rep-ends f (suc j) q zero h l = rw (← h)
rep-ends f (suc j) q (suc zero) h l = rw (← h)
rep-ends f (suc j) q (suc (suc a)) h l = absurd (omega arith)

-- a first round of `+` that fails or takes nothing is all that it takes: it need not be asked again at its place
pub plus-ends : (f : ℕ → ℕ) (j p a : ℕ) → a ≡ f p → a ≤ 1 → a ≡ plus_of (f p) (λ m. rep j f (p + m))
unfolding plus_of
plus-ends f j p zero h l = rw (← h)
plus-ends f j p (suc zero) h l = rw (← h) (omega (arith, rep-ends f j (p + 0) 1 (h ∙ ap f (omega arith)) l))
plus-ends f j p (suc (suc a)) h l = absurd (omega arith)

pub rep-none : (f : ℕ → ℕ) (j q : ℕ) → j ≤ 0 → 0 ≡ rep j f q
unfolding rep
rep-none f zero q h = refl
rep-none f (suc j) q h = absurd (omega arith)

pub rep-more : (f : ℕ → ℕ) (j q a : ℕ) → 0 < j → a ≡ f q → 1 < a → (a - 1) + rep (j - 1) f (q + (a - 1)) ≡ rep j f q
unfolding rep step_of
rep-more f zero q a z h l = absurd (omega arith)
rep-more f (suc j) q zero z h l = absurd (omega arith)
rep-more f (suc j) q (suc zero) z h l = absurd (omega arith)
rep-more f (suc j) q (suc (suc a)) z h l = rw (← h, less_one (suc a), less_one j)
