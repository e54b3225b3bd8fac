-- "A loop is a symbol that reaches itself" (01, Lakes made plain): `reach` is just what one first call after the other leads to, and `loop_from` finds the
-- smallest symbol that reaches itself. Assumes nothing.
use Prim.Native.Nat.{ℕ, zero, suc, ◌+◌, ◌*◌, ◌/◌, ◌%◌, ◌^◌, ◌≤◌, ◌<◌, max}
use Rattle.std.specs.Prelude.{◌≡◌, Bool, cond, ◌↔◌, ◌⊎◌, List, [], ◌∷◌, map, length, get_or}
use Rattle.std.proofs.Math.Path.{refl, ap}
use Rattle.std.proofs.Common.{sym, ap₂, ◌∙◌, subst, true≢false, inl, inr, ⊎_elim, arith, eq-or-lt_of_le, pow-suc, pow_pos, pow_mono, eqb-true, eq-eqb}
use Rattle.std.proofs.Math.Bool.{true, false}
use Rattle.std.proofs.lemmas.Bool.{false≢true, eqb-false}
use Rattle.std.proofs.Math.Option.{Option, none, some, none-ne-some, some-injective}
use Rattle.std.proofs.Math.Decide.{ℕ_discrete}
use Rattle.std.proofs.lemmas.List.{length-map}
use Rattle.std.proofs.Math.ListN.{get_or-map, get_or-eq_default}
use Rattle.std.specs.Int.Bits.{bit_or, or_zero_r}
use Rattle.std.proofs.lemmas.Nat.{or_lt}
use Rattle.std.proofs.Math.Dec.{eqb}
use Rattle.base_facts.specs.laws.Numbers.{lt-or-ge}
use Rattle.base_words.specs.Set.{bit}
use Rattle.base_words.specs.laws.Members.{bit-or, bit-lt, bit-pow-same, bit-pow-other}
use Rattle.base_words.specs.laws.Order.{Sub, sub-or-r, bit-none}
use Rattle.base_rounds.specs.Rounds.{iter}
use Rattle.lake_plain.specs.Calls.{holds, all_called, reach, loop_from}
use Rattle.lake_plain.specs.Loops.{LeadsTo, at_once, and-on}
use Rattle.lake_plain.proofs.laws.Ranks.{member, called-has, closed, reach-has, holds-up, falls}

-- y calls x; calls are the first calls of each symbol, a word each
abbrev pub Called : List ℕ → ℕ → ℕ → Type 0
Called calls y x = (y < length calls) × (holds (get_or calls y 0) x ≡ true)

-- a bit of a union is a bit of one
pub either : (u v x : ℕ) → holds (bit_or u v) x ≡ true → (holds u x ≡ true) ⊎ (holds v x ≡ true)
either u v x h = go (bit u x) refl
  where
    e : max (bit u x) (bit v x) ≡ 1
    e = sym (bit-or u v x) ∙ member (bit_or u v) x h

    go : (k : ℕ) → bit u x ≡ k → (holds u x ≡ true) ⊎ (holds v x ≡ true)
    go zero p = inr (eq-eqb (bit v x) 1 (omega (arith, p, e)))
    go (suc zero) p = inl (eq-eqb (bit u x) 1 p)
    go (suc (suc k)) p = absurd (omega (arith, p, bit-lt u x))

pub none_in : (x : ℕ) → holds 0 x ≡ true → ⊥
none_in x h = let e : bit 0 x ≡ 1 = member 0 x h in let f : bit 0 x ≡ 0 = bit-none x in omega (arith, e, f)

-- what is called by some of w is called by one of them
caller : (calls : List ℕ) (w k x : ℕ) → holds (all_called calls w k) x ≡ true → (y : ℕ) × (y < k) × (holds w y ≡ true) × (holds (get_or calls y 0) x ≡ true)
unfolding all_called
caller calls w zero x h = absurd (none_in x h)
caller calls w (suc k) x h = go (either (all_called calls w k) (cond (holds w k) (get_or calls k 0) 0) x h) (holds w k) refl (λ p. caller calls w k x p)
  where
    go : (holds (all_called calls w k) x ≡ true) ⊎ (holds (cond (holds w k) (get_or calls k 0) 0) x ≡ true) → (b : Bool) → holds w k ≡ b
        → (holds (all_called calls w k) x ≡ true → (y : ℕ) × (y < k) × (holds w y ≡ true) × (holds (get_or calls y 0) x ≡ true))
        → (y : ℕ) × (y < suc k) × (holds w y ≡ true) × (holds (get_or calls y 0) x ≡ true)
    go (inl p) b e f = let q = f p in (q.0, omega (arith, q.1), q.2, q.3)
    go (inr p) true e f = (k, omega arith, e, subst (λ (c : Bool). holds (cond c (get_or calls k 0) 0) x ≡ true) e p)
    go (inr p) false e f = absurd (none_in x (subst (λ (c : Bool). holds (cond c (get_or calls k 0) 0) x ≡ true) e p))

module _ (calls : List ℕ) (r : ℕ) where
  -- what has no word calls nothing
  has_word : (x : ℕ) → holds (get_or calls r 0) x ≡ true → r < length calls
  has_word x h =
      ⊎_elim (λ (l : r < length calls). l) (λ (l : length calls ≤ r). absurd (none_in x (subst (λ (w : ℕ). holds w x ≡ true) (get_or-eq_default calls 0 {n = r} l) h)))
      (lt-or-ge r (length calls))

  rounds-reach : (k x : ℕ) → holds (iter (λ w. bit_or w (all_called calls w (length calls))) (get_or calls r 0) k) x ≡ true → LeadsTo (Called calls) r x
  rounds-reach zero x h = at_once (has_word x h, h)
  rounds-reach (suc k) x h = go (either w (all_called calls w (length calls)) x h) (λ y p. rounds-reach k y p)
    where
      w : ℕ
      w = iter (λ w. bit_or w (all_called calls w (length calls))) (get_or calls r 0) k

      go : (holds w x ≡ true) ⊎ (holds (all_called calls w (length calls)) x ≡ true) → ((y : ℕ) → holds w y ≡ true → LeadsTo (Called calls) r y) → LeadsTo (Called calls) r x
      go (inl p) f = f x p
      go (inr p) f = let q = caller calls w (length calls) x p in and-on (f q.0 q.2) (q.1, q.3)

  -- `reach` has nothing but what one call after the other leads to
  pub reach_leads : (x : ℕ) → holds (reach calls r) x ≡ true → LeadsTo (Called calls) r x
  unfolding reach
  reach_leads x h = rounds-reach (length calls) x h

  module _ (small : (x : ℕ) → get_or calls x 0 < 2 ^ length calls) where
    -- and all of it, where every symbol that is called has a word
    pub reached : {x : ℕ} → LeadsTo (Called calls) r x → holds (reach calls r) x ≡ true
    reached {x} (at_once h) = holds-up calls small (get_or calls r 0) (reach calls r) x (reach-has calls small r) h.1
    reached {x} (and-on {y = y} t h) =
        let up : holds (all_called calls (reach calls r) (length calls)) x ≡ true =
        holds-up calls small (get_or calls y 0) (all_called calls (reach calls r) (length calls)) x (called-has calls small (reach calls r) (length calls) y h.0 (reached t)) h.1 in
        subst (λ (w : ℕ). holds w x ≡ true) (closed calls small r)
        (holds-up calls small (all_called calls (reach calls r) (length calls)) (bit_or (reach calls r) (all_called calls (reach calls r) (length calls))) x (sub-or-r (reach calls r) (all_called calls (reach calls r) (length calls))) up)

-- ── symbols without a word call nothing: `reach` of the others is the same without them ──
-- the bits of a word below n
abbrev low : ℕ → ℕ → ℕ
low w zero = 0
low w (suc n) = bit_or (low w n) (cond (holds w n) (2 ^ n) 0)

pub pow_below : (x n : ℕ) → x < n → 2 ^ x < 2 ^ n
pow_below x n h = let e : 2 ^ suc x ≡ 2 ^ x * 2 = pow-suc 2 x in let l : 2 ^ suc x ≤ 2 ^ n = pow_mono h in omega (arith, pow_pos x)

low_small : (w k n : ℕ) → k ≤ n → low w k < 2 ^ n
low_small w zero n h = pow_pos n
low_small w (suc k) n h = or_lt n (low w k) (cond (holds w k) (2 ^ k) 0) (low_small w k n (omega arith)) (go (holds w k))
  where
    go : (b : Bool) → cond b (2 ^ k) 0 < 2 ^ n
    go true = pow_below k n h
    go false = pow_pos n

-- bit x of what is added for symbol k
added-same : (w k : ℕ) → bit (cond (holds w k) (2 ^ k) 0) k ≡ bit w k
added-same w k = go (holds w k) refl
  where
    go : (b : Bool) → holds w k ≡ b → bit (cond b (2 ^ k) 0) k ≡ bit w k
    go true h = bit-pow-same k ∙ sym (member w k h)
    go false h = let e : bit w k ≡ 1 → ⊥ = eqb-false (bit w k) 1 h in let l : bit w k < 2 = bit-lt w k in bit-none k ∙ omega (arith, e, l)

added-other : (b : Bool) (k x : ℕ) → (k ≡ x → ⊥) → bit (cond b (2 ^ k) 0) x ≡ 0
added-other true k x h = bit-pow-other k x h
added-other false k x h = bit-none x

low-none : (w k x : ℕ) → k ≤ x → bit (low w k) x ≡ 0
low-none w zero x h = bit-none x
low-none w (suc k) x h = bit-or (low w k) (cond (holds w k) (2 ^ k) 0) x ∙ (let p : bit (low w k) x ≡ 0 = low-none w k x (omega arith) in
    let q : bit (cond (holds w k) (2 ^ k) 0) x ≡ 0 = added-other (holds w k) k x (λ e. let z : ⊥ = omega (arith, e, h) in z) in omega (arith, p, q))

low_bit : (w k x : ℕ) → x < k → bit (low w k) x ≡ bit w x
low_bit w zero x h = absurd (omega arith)
low_bit w (suc k) x h = bit-or (low w k) (cond (holds w k) (2 ^ k) 0) x ∙ go (ℕ_discrete x k) (λ l. low_bit w k x l)
  where
    go : Dec (x ≡ k) → (x < k → bit (low w k) x ≡ bit w x) → max (bit (low w k) x) (bit (cond (holds w k) (2 ^ k) 0) x) ≡ bit w x
    go (yes e) f =
        let p : bit (low w k) x ≡ 0 = low-none w k x (omega (arith, e)) in
        let q : bit (cond (holds w k) (2 ^ k) 0) x ≡ bit w x = subst (λ (j : ℕ). bit (cond (holds w k) (2 ^ k) 0) j ≡ bit w j) (sym e) (added-same w k) in
        omega (arith, p, q)
    go (no e) f =
        let p : bit (low w k) x ≡ bit w x = f (let l : x < k = omega (arith, e, h) in l) in
        let q : bit (cond (holds w k) (2 ^ k) 0) x ≡ 0 = added-other (holds w k) k x (λ j. e (sym j)) in
        omega (arith, p, q)

low-zero : (k : ℕ) → low 0 k ≡ 0
low-zero zero = refl
low-zero (suc k) = ap₂ bit_or (low-zero k) (ap (λ (z : ℕ). cond (eqb z 1) (2 ^ k) 0) (bit-none k)) ∙ or_zero_r 0

module _ (calls : List ℕ) where
  abbrev n : ℕ
  n = length calls

  -- the words of the symbols that have one
  abbrev lows : List ℕ
  lows = map (λ w. low w n) calls

  lows-long : length lows ≡ n
  lows-long = length-map calls (λ w. low w n)

  lows-at : (y : ℕ) → get_or lows y 0 ≡ low (get_or calls y 0) n
  lows-at y = ap (λ (d : ℕ). get_or lows y d) (sym (low-zero n)) ∙ get_or-map (λ (w : ℕ). low w n) calls y 0

  lows-small : (y : ℕ) → get_or lows y 0 < 2 ^ length lows
  lows-small y = rw (lows-long, lows-at y) (low_small (get_or calls y 0) n n (omega arith))

  -- words that agree below n
  abbrev Agree : ℕ → ℕ → Type 0
  Agree u v = (x : ℕ) → x < n → bit u x ≡ bit v x

  agree-or : (a b u v : ℕ) → Agree a u → Agree b v → Agree (bit_or a b) (bit_or u v)
  agree-or a b u v p q x l = bit-or a b x ∙ ap₂ max (p x l) (q x l) ∙ sym (bit-or u v x)

  agree-word : (y : ℕ) → Agree (get_or calls y 0) (get_or lows y 0)
  agree-word y x l = rw (lows-at y) (sym (low_bit (get_or calls y 0) n x l))

  agree-called : (u v k : ℕ) → k ≤ n → Agree u v → Agree (all_called calls u k) (all_called lows v k)
  unfolding all_called
  agree-called u v zero h p = λ x l. refl
  agree-called u v (suc k) h p =
      agree-or (all_called calls u k) (cond (holds u k) (get_or calls k 0) 0) (all_called lows v k) (cond (holds v k) (get_or lows k 0) 0)
      (agree-called u v k (omega arith) p) (go (holds u k) (holds v k) (ap (λ (z : ℕ). eqb z 1) (p k h)))
    where
      go : (b c : Bool) → b ≡ c → Agree (cond b (get_or calls k 0) 0) (cond c (get_or lows k 0) 0)
      go b true e = rw e (agree-word k)
      go b false e = rw e (λ x l. refl)

  agree-rounds : (r k : ℕ) → Agree (iter (λ w. bit_or w (all_called calls w n)) (get_or calls r 0) k) (iter (λ w. bit_or w (all_called lows w n)) (get_or lows r 0) k)
  agree-rounds r zero = agree-word r
  agree-rounds r (suc k) =
      let u : ℕ = iter (λ w. bit_or w (all_called calls w n)) (get_or calls r 0) k in
      let v : ℕ = iter (λ w. bit_or w (all_called lows w n)) (get_or lows r 0) k in
      agree-or u (all_called calls u n) v (all_called lows v n) (agree-rounds r k) (agree-called u v n (omega arith) (agree-rounds r k))

  agree-reach : (r : ℕ) → Agree (reach calls r) (reach lows r)
  unfolding reach
  agree-reach r x l =
      agree-rounds r n x l
      ∙ ap (λ (j : ℕ). bit (iter (λ w. bit_or w (all_called lows w j)) (get_or lows r 0) j) x) (sym lows-long)

  called-low : (y x : ℕ) → x < n → Called calls y x → Called lows y x
  called-low y x l h = (omega (arith, h.0, lows-long), ap (λ (z : ℕ). eqb z 1) (sym (agree-word y x l)) ∙ h.1)

  leads-low : {r x : ℕ} → x < n → LeadsTo (Called calls) r x → LeadsTo (Called lows) r x
  leads-low {r} {x} l (at_once h) = at_once (called-low r x l h)
  leads-low {r} {x} l (and-on {y = y} t h) = and-on (leads-low h.0 t) (called-low y x l h)

  -- of a symbol that has a word, `reach` says just what one call after the other leads to
  pub reach-is : (r x : ℕ) → x < n → (holds (reach calls r) x ≡ true) ↔ LeadsTo (Called calls) r x
  reach-is r x l =
      (λ h. reach_leads calls r x h, λ t. ap (λ (z : ℕ). eqb z 1) (agree-reach r x l) ∙ reached lows r lows-small (leads-low l t))

-- x is the smallest symbol from r on, below r + k, that reaches itself
pub record Smallest (calls : List ℕ) (k r x : ℕ) : Type 0 where
  pub low : r ≤ x
  pub high : x < r + k
  pub loops : holds (reach calls x) x ≡ true
  pub before : (y : ℕ) → r ≤ y → y < x → holds (reach calls y) y ≡ true → ⊥

abbrev pub Found : List ℕ → ℕ → ℕ → Option ℕ → Type 0
Found calls k r none = (y : ℕ) → r ≤ y → y < r + k → holds (reach calls y) y ≡ true → ⊥
Found calls k r (some x) = Smallest calls k r x

pub found : (calls : List ℕ) (k r : ℕ) → Found calls k r (loop_from calls k r)
unfolding loop_from
found calls zero r = λ y l h e. absurd (omega arith)
found calls (suc k) r = go (holds (reach calls r) r) refl (loop_from calls k (suc r)) (found calls k (suc r))
  where
    first : holds (reach calls r) r ≡ false → (P : ℕ → Type 0) → (y : ℕ) → r ≤ y → holds (reach calls y) y ≡ true → suc r ≤ y
    first e P y l h = ⊎_elim (λ (p : r ≡ y). absurd (false≢true (sym e ∙ subst (λ (z : ℕ). holds (reach calls z) z ≡ true) (sym p) h))) (λ (p : r < y). p) (eq-or-lt_of_le l)

    go : (b : Bool) → holds (reach calls r) r ≡ b → (o : Option ℕ) → Found calls k (suc r) o → Found calls (suc k) r (elim b as (λ c. Option ℕ) [ true ↦ some r | false ↦ o ])
    go true e o f = record { low = omega arith; high = omega arith; loops = e; before = λ y l h q. omega arith }
    go false e none f = λ y l h q. f y (first e (λ z. ℕ) y l q) (omega arith) q
    go false e (some x) f =
        record { low = omega (arith, f.low); high = omega (arith, f.high); loops = f.loops; before = λ y l h q. f.before y (first e (λ z. ℕ) y l q) h q }
