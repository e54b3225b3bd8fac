-- Where no symbol reaches itself by first calls, a symbol's rank is above that of each symbol that it first-calls. Assumes nothing.
use Prim.Native.Nat.{ℕ, zero, suc, ◌+◌, ◌/◌, ◌%◌, ◌^◌, ◌≤◌, ◌<◌, max}
use Rattle.std.specs.Prelude.{◌≡◌, refl, Bool, true, false, cond, ◌⊎◌, List, [], ◌∷◌, ◌++◌, map, length, get_or, eqb, ltb}
use Rattle.std.proofs.Common.{sym, ap, ◌∙◌, subst, true≢false, inl, inr, ⊎_elim, arith, le_refl, le_trans, eqb-true, eq-eqb}
use Rattle.std.proofs.lemmas.Bool.{false≢true, eqb-false}
use Rattle.std.proofs.Math.Option.{Option, none, some}
use Rattle.std.proofs.Math.Decide.{ℕ_discrete}
use Rattle.std.specs.Int.Bits.{bit_or, or_lt}
use Rattle.std.proofs.Math.Pow.{pow_pos}
use Rattle.base_facts.specs.laws.Numbers.{lt-or-ge}
use Rattle.base_words.specs.Set.{bit, ones}
use Rattle.base_words.specs.laws.Members.{bit-or, bit-lt}
use Rattle.base_words.specs.laws.Order.{Sub, ones-le, ones-mono, ones-strict, sub-or-l, sub-or-r, or-sub, or_mono, bit-none}
use Rattle.base_rounds.specs.Rounds.{iter}
use Rattle.base_rounds.specs.laws.Fix.{Lattice, iter-below, iter-good}
use Rattle.base_rounds.proofs.laws.Stable.{stable}
use Rattle.lake_plain.specs.Calls.{holds, all_called, reach, loop_from}

sub-rfl : (x : ℕ) → Sub x x
sub-rfl x k = le_refl (bit x k)

sub_trans : (x y z : ℕ) → Sub x y → Sub y z → Sub x z
sub_trans x y z p q k = le_trans (p k) (q k)

-- words of n bits that contain b
pub record Above (n b w : ℕ) : Type 0 where
  pub fits : w < 2 ^ n
  pub has : Sub b w

above : (n b : ℕ) → Lattice ℕ
above n b = record {
  Le = Sub;
  Good = Above n b;
  le_rfl = sub-rfl;
  size = ones n;
  top = n;
  bounded = λ x g. ones-le n x;
  strict = λ x y g h s l. ones-strict n x y g.fits h.fits s l;
}

-- a symbol of a word
pub member : (w r : ℕ) → holds w r ≡ true → bit w r ≡ 1
member w r h = eqb-true (bit w r) 1 h

module _ (calls : List ℕ) (small : (r : ℕ) → get_or calls r 0 < 2 ^ length calls) where
  abbrev pub n : ℕ
  n = length calls

  cond-sub : (b : Bool) (x y : ℕ) → (b ≡ true → Sub x y) → Sub (cond b x 0) y
  cond-sub true x y f = f refl
  cond-sub false x y f = λ k. rw (bit-none k) (omega arith)

  cond_small : (b : Bool) (x m : ℕ) → x < 2 ^ m → cond b x 0 < 2 ^ m
  cond_small true x m h = h
  cond_small false x m h = pow_pos m

  called-small : (w k : ℕ) → all_called calls w k < 2 ^ n
  unfolding all_called
  called-small w zero = pow_pos n
  called-small w (suc k) = or_lt n (all_called calls w k) (cond (holds w k) (get_or calls k 0) 0) (called-small w k) (cond_small (holds w k) (get_or calls k 0) n (small k))

  -- what is called is called by one of them
  called-sub : (w y k : ℕ) → ((r : ℕ) → r < k → holds w r ≡ true → Sub (get_or calls r 0) y) → Sub (all_called calls w k) y
  unfolding all_called
  called-sub w y zero f = λ j. rw (bit-none j) (omega arith)
  called-sub w y (suc k) f =
      or-sub (all_called calls w k) (cond (holds w k) (get_or calls k 0) 0) y (called-sub w y k (λ r l h. f r (omega arith) h))
      (cond-sub (holds w k) (get_or calls k 0) y (λ h. f k (omega arith) h))

  cond_has : (b : Bool) (x : ℕ) → b ≡ true → Sub x (cond b x 0)
  cond_has true x h = sub-rfl x
  cond_has false x h = absurd (false≢true h)

  -- and each calls what it calls
  pub called-has : (w k r : ℕ) → r < k → holds w r ≡ true → Sub (get_or calls r 0) (all_called calls w k)
  unfolding all_called
  called-has w zero r l h = absurd (omega arith)
  called-has w (suc k) r l h = go (ℕ_discrete r k) (λ m. called-has w k r m h)
    where
      go : Dec (r ≡ k) → (r < k → Sub (get_or calls r 0) (all_called calls w k)) → Sub (get_or calls r 0) (bit_or (all_called calls w k) (cond (holds w k) (get_or calls k 0) 0))
      go (yes e) f =
          sub_trans (get_or calls r 0) (cond (holds w k) (get_or calls k 0) 0) (bit_or (all_called calls w k) (cond (holds w k) (get_or calls k 0) 0))
          (subst (λ (j : ℕ). Sub (get_or calls r 0) (cond (holds w j) (get_or calls j 0) 0)) e (cond_has (holds w r) (get_or calls r 0) h))
          (sub-or-r (all_called calls w k) (cond (holds w k) (get_or calls k 0) 0))
      go (no q) f =
          sub_trans (get_or calls r 0) (all_called calls w k) (bit_or (all_called calls w k) (cond (holds w k) (get_or calls k 0) 0))
          (f (omega arith)) (sub-or-l (all_called calls w k) (cond (holds w k) (get_or calls k 0) 0))

  abbrev pub grow : ℕ → ℕ
  grow w = bit_or w (all_called calls w n)

  pub holds-up : (x y r : ℕ) → Sub x y → holds x r ≡ true → holds y r ≡ true
  holds-up x y r s h = let e : bit x r ≡ 1 = member x r h in eq-eqb (bit y r) 1 (omega (arith, s r, e, bit-lt y r))

  grow-mono : (x y : ℕ) → Sub x y → Sub (grow x) (grow y)
  grow-mono x y s = or_mono x (all_called calls x n) y (all_called calls y n) s (called-sub x (all_called calls y n) n (λ r l h. called-has y n r l (holds-up x y r s h)))

  module _ (r : ℕ) where
    abbrev pub b : ℕ
    b = get_or calls r 0

    good-grow : (x : ℕ) → Above n b x → Above n b (grow x)
    good-grow x g = record { fits = or_lt n x (all_called calls x n) g.fits (called-small x n); has = sub_trans b x (grow x) g.has (sub-or-l x (all_called calls x n)) }

    good-b : Above n b b
    good-b = record { fits = small r; has = sub-rfl b }

    -- what r reaches calls nothing else
    pub closed : grow (reach calls r) ≡ reach calls r
    unfolding reach above
    closed = stable (above n b) grow b good-b good-grow (λ x y gx gy s. grow-mono x y s) (λ x g. g.has) ℕ_discrete n (omega arith)

    pub reach-small : reach calls r < 2 ^ n
    unfolding reach above
    reach-small = (iter-good (above n b) grow b good-b good-grow (λ x y gx gy s. grow-mono x y s) n).fits

    pub reach-has : Sub b (reach calls r)
    unfolding reach above
    reach-has = (iter-good (above n b) grow b good-b good-grow (λ x y gx gy s. grow-mono x y s) n).has

    -- it lies within every word that has what r calls and calls nothing else
    reach-least : (y : ℕ) → y < 2 ^ n → Sub b y → Sub (grow y) y → Sub (reach calls r) y
    unfolding reach above
    reach-least y f s c = iter-below (above n b) grow b good-b good-grow (λ x z gx gz h. grow-mono x z h) y (record { fits = f; has = s }) s (λ x h. sub_trans x (grow y) y h c) n

  reach-on : (r x : ℕ) → x < n → holds (get_or calls r 0) x ≡ true → Sub (reach calls x) (reach calls r)
  reach-on r x l h =
      reach-least x (reach calls r) (reach-small r)
      (sub_trans (get_or calls x 0) (all_called calls (reach calls r) n) (reach calls r) (called-has (reach calls r) n x l (holds-up (get_or calls r 0) (reach calls r) x (reach-has r) h))
      (subst (λ (w : ℕ). Sub (all_called calls (reach calls r) n) w) (closed r) (sub-or-r (reach calls r) (all_called calls (reach calls r) n))))
      (subst (λ (w : ℕ). Sub (grow (reach calls r)) w) (closed r) (sub-rfl (grow (reach calls r))))

  -- the rank falls along a first call of a symbol that does not reach itself
  pub falls : (r x : ℕ) → x < n → holds (get_or calls r 0) x ≡ true → (holds (reach calls x) x ≡ true → ⊥) → ones n (reach calls x) < ones n (reach calls r)
  falls r x l h f = go (lt-or-ge (ones n (reach calls x)) (ones n (reach calls r)))
    where
      go : (ones n (reach calls x) < ones n (reach calls r)) ⊎ (ones n (reach calls r) ≤ ones n (reach calls x)) → ones n (reach calls x) < ones n (reach calls r)
      go (inl p) = p
      go (inr p) =
          absurd (f (subst (λ (w : ℕ). holds w x ≡ true) (ones-strict n (reach calls x) (reach calls r) (reach-small x) (reach-small r) (reach-on r x l h) p)
          (holds-up (get_or calls r 0) (reach calls r) x (reach-has r) h)))
