-- One byte of a field more. Assumes nothing.
use Prim.Native.Nat.{ℕ, suc, ◌+◌, ◌-◌, ◌*◌, ◌/◌, ◌%◌, ◌≤◌, ◌<◌}
use Rattle.std.specs.Prelude.{◌≡◌, refl, Bool, true, false, ◌&&◌, length, get_or, take, leb, max}
use Rattle.std.specs.Prelude.{Option, Some, None}
use Rattle.std.specs.Option.{SomeIff}
use Rattle.std.specs.List.{starts_with}
use Rattle.std.proofs.Common.{sym, ap₂, ◌∙◌, true≢false, add-one, drop_of_length-le, length-drop, drop-cons}
use Rattle.std.proofs.Math.Path.{ap}
use Rattle.std.proofs.Math.Bool.{cond}
use mathlib.Core.List.{List, [], ◌∷◌}
use native.Mathlib.Omega.{arith}
use Rattle.std.proofs.Math.ListN.{drop}
use Rattle.std.proofs.Math.Seq.{take-length}
use Rattle.std.proofs.Math.Dec.{eqb}
use borrow.Author.Tests.{eq-eqb, ne_eqb, lt-ltb, le-ltb, le-leb, lt-leb}
use Rattle.replay_lines.specs.steps.Fields.{field, to_space, until_of, after_of, begins, beyond, shifted_by, number_from, decimal_of, is_digit, all_digits, bytes_of}

-- ── the next space ──
module _ (s : List ℕ) (i : ℕ) where
  pub at-space : i < length s → get_or s i 0 ≡ 32 → to_space (drop i s) ≡ 0
  unfolding to_space
  at-space l e = ap to_space (drop-cons s i 0 l) ∙ ap (λ (b : Bool). cond b 0 (suc (to_space (drop (suc i) s)))) (eq-eqb (get_or s i 0) 32 e)

  pub no-space : i < length s → (get_or s i 0 ≡ 32 → ⊥) → to_space (drop i s) ≡ suc (to_space (drop (i + 1) s))
  unfolding to_space
  no-space l f =
      ap to_space (drop-cons s i 0 l) ∙ ap (λ (b : Bool). cond b 0 (suc (to_space (drop (suc i) s)))) (ne_eqb (get_or s i 0) 32 f)
      ∙ ap (λ (k : ℕ). suc (to_space (drop k s))) (sym (add-one i))

  pub no_more : length s ≤ i → to_space (drop i s) ≡ 0
  unfolding to_space
  no_more l = ap to_space (drop_of_length-le s l)

-- ── a field's first byte ──
field-cons : (s : List ℕ) (i to : ℕ) → i < to → to ≤ length s → field s i to ≡ get_or s i 0 ∷ field s (i + 1) to
field-cons s i to h l =
    let e : to - i ≡ suc (to - (i + 1)) = omega arith in
    ap (λ (k : ℕ). take k (drop i s)) e ∙ ap (take (suc (to - (i + 1)))) (drop-cons s i 0 (omega arith))
    ∙ ap (λ (k : ℕ). get_or s i 0 ∷ take (to - (i + 1)) (drop k s)) (sym (add-one i))

field-none : (s : List ℕ) (i to : ℕ) → to ≤ i → field s i to ≡ []
field-none s i to h = let e : to - i ≡ 0 = omega arith in ap (λ (k : ℕ). take k (drop i s)) e

-- ── numbers ──
pub number_more :
    (s : List ℕ) (i to v : ℕ) (w : Option ℕ) → i < to → to ≤ length s → w ≡ shifted_by v (get_or s i 0)
    → number_from w (field s (i + 1) to) ≡ number_from (Some v) (field s i to)
unfolding number_from
number_more s i to v w h l e = ap (λ (o : Option ℕ). number_from o (field s (i + 1) to)) e ∙ sym (ap (number_from (Some v)) (field-cons s i to h l))

pub number-done : (s : List ℕ) (i to v : ℕ) → to ≤ i → number_from (Some v) (field s i to) ≡ Some v
unfolding number_from
number-done s i to v h = ap (number_from (Some v)) (field-none s i to h)

pub number_on :
    (l : List ℕ) (k v : ℕ) (w : Option ℕ) → k < length l → w ≡ shifted_by v (get_or l k 0) → number_from w (drop (k + 1) l) ≡ number_from (Some v) (drop k l)
unfolding number_from
number_on l k v w h e =
    ap (λ (o : Option ℕ). number_from o (drop (k + 1) l)) e
    ∙ sym (ap (number_from (Some v)) (drop-cons l k 0 h) ∙ ap (λ (j : ℕ). number_from (shifted_by v (get_or l k 0)) (drop j l)) (sym (add-one k)))

pub number-end : (l : List ℕ) (k v : ℕ) → length l ≤ k → number_from (Some v) (drop k l) ≡ Some v
unfolding number_from
number-end l k v h = ap (number_from (Some v)) (drop_of_length-le l h)

pub number-none : (l : List ℕ) → number_from None l ≡ None
unfolding number_from
number-none l = refl

-- ── digits ──
pub digits_more : (s : List ℕ) (i to : ℕ) → i < to → to ≤ length s → is_digit (get_or s i 0) ≡ true → all_digits (field s i to) ≡ all_digits (field s (i + 1) to)
digits_more s i to h l e = ap all_digits (field-cons s i to h l) ∙ ap (λ (b : Bool). b && all_digits (field s (i + 1) to)) e

pub digits-fail : (s : List ℕ) (i to : ℕ) → i < to → to ≤ length s → is_digit (get_or s i 0) ≡ false → all_digits (field s i to) ≡ false
digits-fail s i to h l e = ap all_digits (field-cons s i to h l) ∙ ap (λ (b : Bool). b && all_digits (field s (i + 1) to)) e

pub digits-done : (s : List ℕ) (i to : ℕ) → to ≤ i → all_digits (field s i to) ≡ true
digits-done s i to h = ap all_digits (field-none s i to h)

-- ── words ──
module _ (s word : List ℕ) (at i : ℕ) (h : i < length word) (l : at + i < length s) where
  both : begins (drop i word) (drop (at + i) s) ≡ (eqb (get_or s (at + i) 0) (get_or word i 0) && begins (drop (i + 1) word) (drop (at + (i + 1)) s))
  unfolding begins
  both =
      let e : suc (at + i) ≡ at + (i + 1) = omega arith in
      ap (λ (w : List ℕ). begins w (drop (at + i) s)) (drop-cons word i 0 h) ∙ ap (begins (get_or word i 0 ∷ drop (suc i) word)) (drop-cons s (at + i) 0 l)
      ∙ ap (λ (k : ℕ). eqb (get_or s (at + i) 0) (get_or word i 0) && begins (drop (suc i) word) (drop k s)) e
      ∙ ap (λ (k : ℕ). eqb (get_or s (at + i) 0) (get_or word i 0) && begins (drop k word) (drop (at + (i + 1)) s)) (sym (add-one i))

  pub word_more : get_or s (at + i) 0 ≡ get_or word i 0 → begins (drop (i + 1) word) (drop (at + (i + 1)) s) ≡ begins (drop i word) (drop (at + i) s)
  word_more e = sym (both ∙ ap (λ (b : Bool). b && begins (drop (i + 1) word) (drop (at + (i + 1)) s)) (eq-eqb (get_or s (at + i) 0) (get_or word i 0) e))

  pub word-differs : (get_or s (at + i) 0 ≡ get_or word i 0 → ⊥) → begins (drop i word) (drop (at + i) s) ≡ false
  word-differs f = both ∙ ap (λ (b : Bool). b && begins (drop (i + 1) word) (drop (at + (i + 1)) s)) (ne_eqb (get_or s (at + i) 0) (get_or word i 0) f)

pub word-done : (s word : List ℕ) (at i : ℕ) → length word ≤ i → begins (drop i word) (drop (at + i) s) ≡ true
unfolding begins
word-done s word at i h = ap (λ (w : List ℕ). begins w (drop (at + i) s)) (drop_of_length-le word h)

begins-short : (w l : List ℕ) → length l < length w → begins w l ≡ false
unfolding begins
begins-short [] l h = absurd (omega arith)
begins-short (b ∷ w) [] h = refl
begins-short (b ∷ w) (c ∷ l) h = go (eqb c b) (begins-short w l (omega arith))
  where
    go : (t : Bool) → begins w l ≡ false → (t && begins w l) ≡ false
    go true e = e
    go false e = refl

pub word-short : (s word : List ℕ) (at : ℕ) → length s < at + length word → 0 < length word → begins word (drop at s) ≡ false
word-short s word at h p = begins-short word (drop at s) (omega (arith, length-drop at s))

eqb-sym : (a b : ℕ) → eqb a b ≡ eqb b a
eqb-sym a b = grind arith

pub begins_is : (w l : List ℕ) → begins w l ≡ starts_with eqb l w
unfolding begins
begins_is [] l = refl
begins_is (b ∷ w) [] = refl
begins_is (b ∷ w) (c ∷ l) = ap₂ (λ (x y : Bool). x && y) (eqb-sym c b) (begins_is w l)

pub rest_is : (s : List ℕ) (at : ℕ) → take (length s - at) (drop at s) ≡ drop at s
rest_is s at = ap (λ (k : ℕ). take k (drop at s)) (sym (length-drop at s)) ∙ take-length (drop at s)

pub word-past : (s w : List ℕ) (at : ℕ) → length s ≤ at → eqb (length w) 0 ≡ begins w (drop at s)
unfolding begins
word-past s [] at h = refl
word-past s (b ∷ w) at h = ne_eqb (suc (length w)) 0 (λ e. omega (arith, e)) ∙ sym (ap (begins (b ∷ w)) (drop_of_length-le s h))

begins-length : (w l : List ℕ) → begins w l ≡ true → length w ≤ length l
unfolding begins
begins-length [] l e = omega arith
begins-length (b ∷ w) [] e = absurd (true≢false (sym e))
begins-length (b ∷ w) (c ∷ l) e = go (eqb c b) (begins-length w l) e
  where
    go : (t : Bool) → (begins w l ≡ true → length w ≤ length l) → (t && begins w l) ≡ true → suc (length w) ≤ suc (length l)
    go true f h = omega (arith, f h)
    go false f h = absurd (true≢false (sym h))

pub word-fits : (s w : List ℕ) (at : ℕ) → begins w (drop at s) ≡ true → at + length w ≤ max at (length s)
word-fits s w at e = omega (arith, begins-length w (drop at s) e, length-drop at s)

-- ── one byte, as code tests it ──
module _ (b : ℕ) where
  pub digit_low : b < 48 → false ≡ is_digit b
  digit_low h = rw (lt-leb 48 b h, lt-leb 97 b (omega arith))

  pub digit-ten : 48 ≤ b → b < 58 → true ≡ is_digit b
  digit-ten h l = rw (le-leb 48 b h, le-leb b 57 (omega arith))

  pub digit-mid : 58 ≤ b → b < 97 → false ≡ is_digit b
  digit-mid h l = rw (lt-leb b 57 (omega arith), lt-leb 97 b l, le-leb 48 b (omega arith))

  pub digit-six : 97 ≤ b → b < 103 → true ≡ is_digit b
  digit-six h l = rw (lt-leb b 57 (omega arith), le-leb 48 b (omega arith), le-leb 97 b h, le-leb b 102 (omega arith))

  pub digit-high : 103 ≤ b → false ≡ is_digit b
  digit-high h = rw (lt-leb b 57 (omega arith), le-leb 48 b (omega arith), le-leb 97 b (omega arith), lt-leb b 102 (omega arith))

module _ (v b : ℕ) where
  pub shift-low : b < 48 → None ≡ shifted_by v b
  unfolding shifted_by
  shift-low h = rw (lt-ltb b 48 h)

  pub shift-high : 48 ≤ b → 57 < b → None ≡ shifted_by v b
  unfolding shifted_by
  shift-high h l = rw (le-ltb b 48 h, lt-ltb 57 b l)

  pub shift-large : 48 ≤ b → b ≤ 57 → beyond ≤ v * 10 + (b - 48) → None ≡ shifted_by v b
  unfolding shifted_by
  shift-large h l k = rw (le-ltb b 48 h, le-ltb 57 b l, le-leb beyond (v * 10 + (b - 48)) k)

  pub shift-on : 48 ≤ b → b ≤ 57 → v * 10 + (b - 48) < beyond → Some (v * 10 + (b - 48)) ≡ shifted_by v b
  unfolding shifted_by
  shift-on h l k = rw (le-ltb b 48 h, le-ltb 57 b l, lt-leb beyond (v * 10 + (b - 48)) k)

  pub shift_over : 48 ≤ b → b ≤ 57 → (v * 10 < beyond → ⊥) → None ≡ shifted_by v b
  shift_over h l k = shift-large h l (omega (arith, k))

  pub shift_sum : (r : Option ℕ) (w d : ℕ) → 48 ≤ b → b ≤ 57 → w ≡ v * 10 → d ≡ b - 48 → SomeIff r (w + d < beyond) (w + d) → r ≡ shifted_by v b
  shift_sum None w d h l p q n = shift-large h l (omega (arith, p, q, n))
  shift_sum (Some x) w d h l p q e = ap Some (omega (arith, e.1, p, q)) ∙ shift-on h l (omega (arith, e.0, p, q))

-- ── the whole field ──
module _ (s : List ℕ) (at : ℕ) where
  pub after_next : (e : ℕ) → e ≡ until_of s at → e < length s → e + 1 ≡ after_of s at
  after_next e q h =
      ap (λ (k : ℕ). k + 1) q ∙ sym (ap (λ (b : Bool). cond b (until_of s at + 1) (length s)) (lt-ltb (until_of s at) (length s) (omega (arith, h, q))))

  pub after_last : (e : ℕ) → e ≡ until_of s at → length s ≤ e → length s ≡ after_of s at
  after_last e q h = sym (ap (λ (b : Bool). cond b (until_of s at + 1) (length s)) (le-ltb (until_of s at) (length s) (omega (arith, h, q))))

module _ (s : List ℕ) (from to : ℕ) where
  pub decimal-past : length s < to → None ≡ decimal_of s from to
  decimal-past h = rw (lt-ltb (length s) to h)

  pub decimal-none : to ≤ length s → to ≤ from → None ≡ decimal_of s from to
  decimal-none h l = rw (le-ltb (length s) to h, le-leb to from l)

  pub decimal_from : to ≤ length s → from < to → (o : Option ℕ) → o ≡ number_from (Some 0) (field s from to) → o ≡ decimal_of s from to
  decimal_from h l o e = e ∙ sym (rw (le-ltb (length s) to h, lt-leb to from l))

  pub decimal-is :
      to ≤ length s → from < to → (i v : ℕ) → to ≤ i → number_from (Some v) (field s i to) ≡ number_from (Some 0) (field s from to)
      → Some v ≡ decimal_of s from to
  decimal-is h l i v k e = decimal_from h l (Some v) (sym (number-done s i to v k) ∙ e)

  module _ (most : ℕ) where
    pub bytes_past : length s < to → false ≡ bytes_of s from to most
    bytes_past h = rw (lt-ltb (length s) to h)

    module _ (h : to ≤ length s) where
      pub bytes-none : to ≤ from → false ≡ bytes_of s from to most
      bytes-none l = rw (le-ltb (length s) to h, le-leb to from l)

      module _ (l : from < to) where
        by_size : (b : Bool) → eqb (to - from) 1 ≡ b
            → bytes_of s from to most ≡ cond b (eqb (get_or s from 0) 45) (eqb ((to - from) % 2) 0 && (leb ((to - from) / 2) most && all_digits (field s from to)))
        by_size b e = rw (le-ltb (length s) to h, lt-leb to from l, e)

        pub bytes-dash : to - from ≡ 1 → eqb (get_or s from 0) 45 ≡ bytes_of s from to most
        bytes-dash e = sym (by_size true (eq-eqb (to - from) 1 e))

        module _ (n : to - from ≡ 1 → ⊥) where
          pub bytes-odd : ((to - from) % 2 ≡ 0 → ⊥) → false ≡ bytes_of s from to most
          bytes-odd f = sym (by_size false (ne_eqb (to - from) 1 n) ∙ ap (λ (b : Bool). b && (leb ((to - from) / 2) most && all_digits (field s from to))) (ne_eqb ((to - from) % 2) 0 f))

          pub bytes-many : (to - from) % 2 ≡ 0 → most < (to - from) / 2 → false ≡ bytes_of s from to most
          bytes-many e f =
              sym (by_size false (ne_eqb (to - from) 1 n) ∙ ap (λ (b : Bool). b && (leb ((to - from) / 2) most && all_digits (field s from to))) (eq-eqb ((to - from) % 2) 0 e)
              ∙ ap (λ (b : Bool). b && all_digits (field s from to)) (lt-leb ((to - from) / 2) most f))

          pub bytes-are : (to - from) % 2 ≡ 0 → (to - from) / 2 ≤ most → (t : Bool) → all_digits (field s from to) ≡ t → t ≡ bytes_of s from to most
          bytes-are e f t d =
              sym (by_size false (ne_eqb (to - from) 1 n) ∙ ap (λ (b : Bool). b && (leb ((to - from) / 2) most && all_digits (field s from to))) (eq-eqb ((to - from) % 2) 0 e)
              ∙ ap (λ (b : Bool). b && all_digits (field s from to)) (le-leb ((to - from) / 2) most f) ∙ d)

pub word-start : (s word : List ℕ) (at : ℕ) → begins (drop 0 word) (drop (at + 0) s) ≡ begins word (drop at s)
word-start s word at = let e : at + 0 ≡ at = omega arith in ap (λ (k : ℕ). begins word (drop k s)) e
