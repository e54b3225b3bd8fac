-- One word as a set of bits: containment, extensionality, the count of bits. Assumes nothing.
use Rattle.std.specs.Prelude.{◌≡◌, refl, ℕ, zero, suc, ◌+◌, ◌-◌, ◌*◌, ◌/◌, ◌%◌, ◌^◌, ◌≤◌, ◌<◌, min, max}
use Rattle.std.proofs.Common.{sym, ap, ap₂, ◌∙◌, subst, mod-lt, div-add-mod', zero-lt-suc, one-add, add-one, arith, shr-shr, shr_lt}
use Rattle.std.proofs.Math.Nat.{zero-div}
use Rattle.std.proofs.Math.Arith.{bin_ind, lt-one}
use Rattle.std.specs.Int.Bits.{bit_or}
use Rattle.base_words.specs.Set.{bit, ones}
use Rattle.base_words.specs.laws.Members.{bit-or, bit-lt}

half_lt : (w x : ℕ) → x < 2 ^ suc w → x / 2 < 2 ^ w
half_lt w x h = shr_lt w 1 (rw add-one h)

-- x is contained in y
abbrev pub Sub : ℕ → ℕ → Type 0
Sub x y = (k : ℕ) → bit x k ≤ bit y k

pub bit-suc : (x k : ℕ) → bit x (suc k) ≡ bit (x / 2) k
bit-suc x k = ap (λ (n : ℕ). n % 2) (ap (λ (j : ℕ). x / 2 ^ j) (sym (one-add k)) ∙ sym (shr-shr x 1 k))

pub bit-none : (k : ℕ) → bit 0 k ≡ 0
bit-none k = ap (λ (n : ℕ). n % 2) (zero-div (2 ^ k))

pub sub-half : (x y : ℕ) → Sub x y → Sub (x / 2) (y / 2)
sub-half x y h k = rw (← bit-suc x k, ← bit-suc y k) (h (suc k))

-- equal bits, equal words
pub same_bits : (w x y : ℕ) → x < 2 ^ w → y < 2 ^ w → ((k : ℕ) → bit x k ≡ bit y k) → x ≡ y
same_bits zero x y p q h = lt-one p ∙ sym (lt-one q)
same_bits (suc w) x y p q h =
    let e : x / 2 ≡ y / 2 = same_bits w (x / 2) (y / 2) (half_lt w x p) (half_lt w y q) (λ k. sym (bit-suc x k) ∙ h (suc k) ∙ bit-suc y k) in
    let f : x / 2 ^ 0 % 2 ≡ y / 2 ^ 0 % 2 = h 0 in
    omega arith

pub ones-le : (w x : ℕ) → ones w x ≤ w
ones-le zero x = omega arith
ones-le (suc w) x = omega (arith, ones-le w (x / 2))

pub ones-mono : (w x y : ℕ) → Sub x y → ones w x ≤ ones w y
ones-mono zero x y h = omega arith
ones-mono (suc w) x y h =
    let f : x / 2 ^ 0 % 2 ≤ y / 2 ^ 0 % 2 = h 0 in
    omega (arith, ones-mono w (x / 2) (y / 2) (sub-half x y h))

-- contained, and with no fewer bits: the same
pub ones-strict : (w x y : ℕ) → x < 2 ^ w → y < 2 ^ w → Sub x y → ones w y ≤ ones w x → y ≡ x
ones-strict zero x y p q h l = lt-one q ∙ sym (lt-one p)
ones-strict (suc w) x y p q h l =
    let f : x / 2 ^ 0 % 2 ≤ y / 2 ^ 0 % 2 = h 0 in
    let m : ones w (x / 2) ≤ ones w (y / 2) = ones-mono w (x / 2) (y / 2) (sub-half x y h) in
    let e : y / 2 ≡ x / 2 = ones-strict w (x / 2) (y / 2) (half_lt w x p) (half_lt w y q) (sub-half x y h) (omega arith) in
    omega arith

-- the union is the least that contains both
pub sub-or-l : (x y : ℕ) → Sub x (bit_or x y)
sub-or-l x y k = rw (bit-or x y k) (omega arith)

pub sub-or-r : (x y : ℕ) → Sub y (bit_or x y)
sub-or-r x y k = rw (bit-or x y k) (omega arith)

pub or-sub : (x y z : ℕ) → Sub x z → Sub y z → Sub (bit_or x y) z
or-sub x y z p q k = rw (bit-or x y k) (omega (arith, p k, q k))

pub or_mono : (x y u v : ℕ) → Sub x u → Sub y v → Sub (bit_or x y) (bit_or u v)
or_mono x y u v p q k = rw (bit-or x y k, bit-or u v k) (omega (arith, p k, q k))
