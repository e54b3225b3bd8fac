-- What the words of a set say of membership. Assumes nothing.
use Rattle.std.specs.Prelude.{◌≡◌, refl, ◌⊎◌, List, [], ◌∷◌, Bool, true, false, ◌&&◌, ◌||◌, ℕ, zero, suc, ◌+◌, ◌-◌, ◌*◌, ◌/◌, ◌%◌, ◌^◌, ◌≤◌, ◌<◌, min, max, length, get_or, set, eqb}
use Rattle.std.proofs.Common.{sym, ap, ap₂, ◌∙◌, subst, inl, inr, ⊎_elim, mod-lt, zero-lt-suc, pow-suc, one-mul, one-add, shr-shr, arith, get_or-set_same, get_or-set_other, ext_get_or}
use Rattle.std.proofs.Math.Nat.{zero-max, max-zero, zero-div}
use Rattle.std.proofs.Math.Decide.{ℕ_discrete}
use Rattle.std.proofs.lemmas.Nat.{shl-shr, or_shr}
use Rattle.std.proofs.Math.Arith.{digits_mod}
use Rattle.std.specs.Int.Bits.{bit_and, bit_or, or_step}
use Rattle.base_facts.specs.laws.Numbers.{same?}
use Rattle.base_words.specs.Set.{bit, union_of, member_of, with_of}

pub bit-lt : (x k : ℕ) → bit x k < 2
bit-lt x k = mod-lt _ (zero-lt-suc 1)

or-odd : (a b : ℕ) → bit_or a b % 2 ≡ max (a % 2) (b % 2)
or-odd a b =
    ap (λ (x : ℕ). x % 2) (or_step a b)
    ∙ digits_mod (bit_or (a / 2) (b / 2)) (omega arith)

-- the bit of an or is the greater of the bits
pub bit-or : (a b k : ℕ) → bit (bit_or a b) k ≡ max (bit a k) (bit b k)
bit-or a b k = ap (λ (x : ℕ). x % 2) (or_shr a b k) ∙ or-odd (a / 2 ^ k) (b / 2 ^ k)

or-eqb : (x y : ℕ) → x < 2 → y < 2 → eqb (max x y) 1 ≡ (eqb x 1 || eqb y 1)
or-eqb zero y h k = ap (λ (n : ℕ). eqb n 1) (zero-max y)
or-eqb (suc zero) zero h k = refl
or-eqb (suc zero) (suc zero) h k = refl
or-eqb (suc zero) (suc (suc y)) h k = let z : ⊥ = omega arith in absurd z
or-eqb (suc (suc x)) y h k = let z : ⊥ = omega arith in absurd z

word-or : (a b : List ℕ) (i : ℕ) → i < 2 → get_or (union_of a b) i 0 ≡ bit_or (get_or a i 0) (get_or b i 0)
word-or a b zero h = refl
word-or a b (suc zero) h = refl
word-or a b (suc (suc i)) h = let z : ⊥ = omega arith in absurd z

-- k is in a union where it is in either
pub member_union : (a b : List ℕ) (k : ℕ) → k < 128 → member_of (union_of a b) k ≡ (member_of a k || member_of b k)
member_union a b k h =
    ap (λ (x : ℕ). eqb (bit x (k % 64)) 1) (word-or a b (k / 64) (omega arith))
    ∙ ap (λ (x : ℕ). eqb x 1) (bit-or (get_or a (k / 64) 0) (get_or b (k / 64) 0) (k % 64))
    ∙ or-eqb (bit (get_or a (k / 64) 0) (k % 64)) (bit (get_or b (k / 64) 0) (k % 64)) (bit-lt _ _) (bit-lt _ _)

-- two words each: equal where both words are
pub two-words : (s u : List ℕ) → length s ≡ 2 → length u ≡ 2 → get_or s 0 0 ≡ get_or u 0 0 → get_or s 1 0 ≡ get_or u 1 0 → s ≡ u
two-words s u p q e f = ext_get_or 0 s u (omega arith) (go p)
  where
    go : length s ≡ 2 → (i : ℕ) → i < length s → get_or s i 0 ≡ get_or u i 0
    go p zero l = e
    go p (suc zero) l = f
    go p (suc (suc i)) l = let z : ⊥ = omega arith in absurd z

pub bit-step : (x k : ℕ) → bit x (suc k) ≡ bit (x / 2) k
bit-step x k = ap (λ (n : ℕ). n % 2) (ap (λ (j : ℕ). x / 2 ^ j) (sym (one-add k)) ∙ sym (shr-shr x 1 k))

pub bit-pow-same : (k : ℕ) → bit (2 ^ k) k ≡ 1
bit-pow-same k = ap (λ (n : ℕ). n / 2 ^ k % 2) (sym (one-mul (2 ^ k))) ∙ ap (λ (n : ℕ). n % 2) (shl-shr 1 k)

pub bit-pow-other : (j k : ℕ) → (j ≡ k → ⊥) → bit (2 ^ j) k ≡ 0
bit-pow-other zero zero h = absurd (h refl)
bit-pow-other zero (suc k) h = bit-step 1 k ∙ ap (λ (n : ℕ). n % 2) (zero-div (2 ^ k))
bit-pow-other (suc j) zero h = let e : 2 ^ suc j ≡ 2 ^ j * 2 = pow-suc 2 j in omega arith
bit-pow-other (suc j) (suc k) h =
    bit-step (2 ^ suc j) k
    ∙ ap (λ (n : ℕ). bit n k) (let e : 2 ^ suc j ≡ 2 ^ j * 2 = pow-suc 2 j in let f : 2 ^ suc j / 2 ≡ 2 ^ j = omega arith in f)
    ∙ bit-pow-other j k (λ e. h (ap suc e))

-- k is in, and what was
pub member-with-same : (s : List ℕ) (k : ℕ) → length s ≡ 2 → k < 128 → member_of (with_of s k) k ≡ true
member-with-same s k e h =
    ap (λ (x : ℕ). eqb (bit x (k % 64)) 1) (get_or-set_same s (k / 64) (bit_or (get_or s (k / 64) 0) (2 ^ (k % 64))) 0 (omega arith))
    ∙ ap (λ (x : ℕ). eqb x 1) (bit-or (get_or s (k / 64) 0) (2 ^ (k % 64)) (k % 64))
    ∙ ap (λ (x : ℕ). eqb x 1) (let p = bit-pow-same (k % 64) in let q = bit-lt (get_or s (k / 64) 0) (k % 64) in
    let m : max (bit (get_or s (k / 64) 0) (k % 64)) (bit (2 ^ (k % 64)) (k % 64)) ≡ 1 = omega arith in m)

pub member-with-other : (s : List ℕ) (k j : ℕ) → length s ≡ 2 → k < 128 → (j ≡ k → ⊥) → member_of (with_of s k) j ≡ member_of s j
member-with-other s k j e h n =
    ⊎_elim
    (λ p. ap (λ (x : ℕ). eqb (bit x (j % 64)) 1)
    (ap (λ (i : ℕ). get_or (with_of s k) i 0) p ∙ get_or-set_same s (k / 64) (bit_or (get_or s (k / 64) 0) (2 ^ (k % 64))) 0 (omega arith) ∙ ap (λ (i : ℕ). bit_or (get_or s i 0) (2 ^ (k % 64))) (sym p))
    ∙ ap (λ (x : ℕ). eqb x 1) (bit-or (get_or s (j / 64) 0) (2 ^ (k % 64)) (j % 64)
    ∙ ap (λ (y : ℕ). max (bit (get_or s (j / 64) 0) (j % 64)) y) (bit-pow-other (k % 64) (j % 64) (λ q. n (omega arith)))
    ∙ max-zero (bit (get_or s (j / 64) 0) (j % 64))))
    (λ p. ap (λ (x : ℕ). eqb (bit x (j % 64)) 1) (get_or-set_other s (k / 64) (j / 64) (bit_or (get_or s (k / 64) 0) (2 ^ (k % 64))) 0 p))
    (same? (j / 64) (k / 64))
