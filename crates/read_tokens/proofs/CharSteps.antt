-- The ways through a character, each as an equation. Assumes nothing.
use Prim.Native.Nat.{ℕ, zero, suc, ◌+◌, ◌-◌, ◌*◌, ◌≤◌, ◌<◌}
use mathlib.Core.Path.{◌≡◌, refl, sym, ap, ◌∙◌}
use mathlib.Core.Bool.{true, false}
use mathlib.Core.List.{List, [], ◌∷◌}
use mathlib.Core.Logic.{◌⊎◌, inl, inr}
use native.Mathlib.Omega.{arith}
use native.Mathlib.Nat.{add-zero}
use lib.Dec.{leb, eqb}
use lib.ListN.{length, drop, get_or}
use lib.Seq.{get_or-drop, drop-cons}
use native.Mathlib.Numerals.{add-one}
use Rattle.std.proofs.Common.{eq-or-lt_of_le}
use Rattle.std.specs.Prelude.{Option, Some, None, slice_get, unwrap_or}
use Rattle.std.specs.Option.{option_eq}
use Rattle.std.proofs.lemmas.Option.{unwrap_or-slice_get}
use borrow.Author.Tests.{eq-eqb, ne_eqb, le-leb, lt-leb, leb-true, eqb-true, eqb-false}
use Rattle.base_facts.specs.laws.Bools.{and_parts}
use Rattle.read_tokens.specs.Bounds.{first_octal}
use Rattle.read_tokens.specs.Chars.{got, octal, octals, letters, four, char}

pub octal-low : (d : ℕ) → octal d ≡ true → 48 ≤ d
octal-low d e = leb-true 48 d (and_parts (leb 48 d) (leb d 55) e).0

pub octal-high : (d : ℕ) → octal d ≡ true → d ≤ 55
octal-high d e = leb-true d 55 (and_parts (leb 48 d) (leb d 55) e).1

pub octal-yes : (c : ℕ) → 48 ≤ c → c ≤ 55 → octal c ≡ true
octal-yes c h k = rw (le-leb 48 c h, le-leb c 55 k)

pub octal-below : (c : ℕ) → c < 48 → octal c ≡ false
octal-below c h = rw (lt-leb 48 c h)

pub octal-above : (c : ℕ) → 55 < c → octal c ≡ false
octal-above c h = let u : leb 48 c ≡ true = le-leb 48 c (omega arith) in rw (u, lt-leb c 55 h)

-- by the digits' worth
module _ (c d e x y z : ℕ) (p : x ≡ c - 48) (q : y ≡ d - 48) (r : z ≡ e - 48) where
  pub octals-1 : octal d ≡ false → got x 2 ≡ octals c d e
  unfolding octals
  octals-1 h = rw (octals, h, p)

  pub octals-2 : octal d ≡ true → 50 < c → got (x * 8 + y) 3 ≡ octals c d e
  unfolding octals first_octal
  octals-2 h k = rw (octals, h, lt-leb c 50 k, p, q)

  pub octals-2' : octal d ≡ true → c ≤ 50 → octal e ≡ false → got (x * 8 + y) 3 ≡ octals c d e
  unfolding octals first_octal
  octals-2' h k j = rw (octals, h, le-leb c 50 k, j, p, q)

  pub octals-3 : octal d ≡ true → c ≤ 50 → octal e ≡ true → got (x * 64 + y * 8 + z) 4 ≡ octals c d e
  unfolding octals first_octal
  octals-3 h k j = rw (octals, h, le-leb c 50 k, j, p, q, r)

pub letters-no : (c : ℕ) → (c ≡ 110 → ⊥) → (c ≡ 114 → ⊥) → (c ≡ 116 → ⊥) → (c ≡ 39 → ⊥) → (c ≡ 34 → ⊥) → (c ≡ 91 → ⊥) → (c ≡ 93 → ⊥) → (c ≡ 92 → ⊥) → got 0 0 ≡ letters c
unfolding letters
letters-no c a b d e f g h i =
    rw (letters, ne_eqb c 110 a, ne_eqb c 114 b, ne_eqb c 116 d, ne_eqb c 39 e, ne_eqb c 34 f, ne_eqb c 91 g, ne_eqb c 93 h, ne_eqb c 92 i)

pub letters-quote : (c : ℕ) → (c ≡ 34) ⊎ (c ≡ 39) → got c 2 ≡ letters c
unfolding letters
letters-quote c (inl e) = rw e
letters-quote c (inr e) = rw e

-- `[`, `\` and `]` stand beside one another
pub letters-near : (c : ℕ) → 91 ≤ c → c < 94 → got c 2 ≡ letters c
unfolding letters
letters-near c h k = go (eq-or-lt_of_le h)
  where
    last : (92 ≡ c) ⊎ (92 < c) → got c 2 ≡ letters c
    last (inl e) = rw (← e)
    last (inr e) = let f : c ≡ 93 = omega arith in rw f

    go : (91 ≡ c) ⊎ (91 < c) → got c 2 ≡ letters c
    go (inl e) = rw (← e)
    go (inr e) = last (eq-or-lt_of_le (omega arith))

module _ (b c d e : ℕ) where
  pub four-end : b ≡ 256 → got 0 0 ≡ four b c d e
  unfolding four
  four-end h = rw (four, eq-eqb b 256 h)

  pub four-raw : (b ≡ 256 → ⊥) → (b ≡ 92 → ⊥) → got b 1 ≡ four b c d e
  unfolding four
  four-raw h k = rw (four, ne_eqb b 256 h, ne_eqb b 92 k)

  pub four-octal : b ≡ 92 → octal c ≡ true → octals c d e ≡ four b c d e
  unfolding four
  four-octal h k = rw (four, ne_eqb b 256 (λ x. let z : 92 ≡ 256 = sym h ∙ x in omega arith), eq-eqb b 92 h, k)

  pub four-letter : b ≡ 92 → octal c ≡ false → letters c ≡ four b c d e
  unfolding four
  four-letter h k = rw (four, ne_eqb b 256 (λ x. let z : 92 ≡ 256 = sym h ∙ x in omega arith), eq-eqb b 92 h, k)

-- from the bytes at a place
char-four : (s : List ℕ) (i : ℕ) → char (drop i s) ≡ four (get_or s i 256) (get_or s (i + 1) 256) (get_or s (i + 2) 256) (get_or s (i + 3) 256)
unfolding char
char-four s i =
    rw (get_or-drop i s 0 256, get_or-drop i s 1 256, get_or-drop i s 2 256, get_or-drop i s 3 256)
    (ap (λ (j : ℕ). four (get_or s j 256) (get_or s (i + 1) 256) (get_or s (i + 2) 256) (get_or s (i + 3) 256)) (add-zero i))

-- from the bytes as code has them
pub char_is : (s : List ℕ) (i : ℕ) (b c d e : Option ℕ) → b ≡ slice_get s i → c ≡ slice_get s (i + 1) → d ≡ slice_get s (i + 2) → e ≡ slice_get s (i + 3)
    → four (unwrap_or b 256) (unwrap_or c 256) (unwrap_or d 256) (unwrap_or e 256) ≡ char (drop i s)
char_is s i b c d e p q r t = four_same (is i p) (is (i + 1) q) (is (i + 2) r) (is (i + 3) t) ∙ sym (char-four s i)
  where
    is : {o : Option ℕ} (j : ℕ) → o ≡ slice_get s j → unwrap_or o 256 ≡ get_or s j 256
    is {o} j e = ap (λ (x : Option ℕ). unwrap_or x 256) e ∙ unwrap_or-slice_get s j 256

    four_same : {b b' c c' d d' e e' : ℕ} → b ≡ b' → c ≡ c' → d ≡ d' → e ≡ e' → four b c d e ≡ four b' c' d' e'
    four_same p q r t = cc

-- the byte at a place, 256 where there is none
pub byte-is : {o : Option ℕ} (s : List ℕ) (i : ℕ) → o ≡ slice_get s i → get_or s i 256 ≡ unwrap_or o 256
byte-is s i e = sym (ap (λ (x : Option ℕ). unwrap_or x 256) e ∙ unwrap_or-slice_get s i 256)

-- whether it is b, as code asks
module _ (s : List ℕ) (i b : ℕ) where
  pub same-byte : {o : Option ℕ} → b < 256 → o ≡ slice_get s i → option_eq eqb o (Some b) ≡ eqb (get_or s i 256) b
  same-byte {o} l e = go o ∙ ap (λ (x : ℕ). eqb x b) (sym (byte-is s i e))
    where
      go : (o : Option ℕ) → option_eq eqb o (Some b) ≡ eqb (unwrap_or o 256) b
      go None = sym (ne_eqb 256 b (λ z. omega arith))
      go (Some y) = refl

  pub is-byte : {o : Option ℕ} → o ≡ slice_get s i → option_eq eqb o (Some b) ≡ true → get_or s i 256 ≡ b
  is-byte {o} e h = byte-is s i e ∙ go o h
    where
      go : (o : Option ℕ) → option_eq eqb o (Some b) ≡ true → unwrap_or o 256 ≡ b
      go None h = let z : ◌≡◌ {A = ℕ} 0 1 = cc in absurd (omega arith)
      go (Some y) h = eqb-true y b h

  pub not-byte : {o : Option ℕ} → b < 256 → o ≡ slice_get s i → option_eq eqb o (Some b) ≡ false → get_or s i 256 ≡ b → ⊥
  not-byte {o} l e h z = go o h (sym (byte-is s i e) ∙ z)
    where
      go : (o : Option ℕ) → option_eq eqb o (Some b) ≡ false → unwrap_or o 256 ≡ b → ⊥
      go None h z = omega arith
      go (Some y) h z = eqb-false y b h z

pub get_d-inside : (s : List ℕ) (i a b : ℕ) → i < length s → get_or s i a ≡ get_or s i b
get_d-inside [] i a b h = absurd (omega arith)
get_d-inside (x ∷ s) zero a b h = refl
get_d-inside (x ∷ s) (suc i) a b h = get_d-inside s i a b (omega arith)

-- a byte that is one lies in the text
pub inside : (s : List ℕ) (i b : ℕ) → get_or s i 256 ≡ b → b < 256 → i < length s
inside [] i b e h = absurd (omega arith)
inside (x ∷ s) zero b e h = omega arith
inside (x ∷ s) (suc i) b e h = let u = inside s i b e h in omega arith

-- the suffix from i, taken apart
pub suffix : (s : List ℕ) (i : ℕ) → i < length s → drop i s ≡ get_or s i 0 ∷ drop (i + 1) s
suffix s i h = rw (add-one, drop-cons s i 0)

pub first-at : (s : List ℕ) (i : ℕ) → get_or (drop i s) 0 256 ≡ get_or s i 256
first-at s i = get_or-drop i s 0 256 ∙ ap (λ (j : ℕ). get_or s j 256) (add-zero i)
