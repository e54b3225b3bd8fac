-- Numbers as code reads them: what the digits say, and that they must be written so. Assumes nothing.
use Prim.Native.Nat.{ℕ, zero, suc, ◌+◌, ◌-◌, ◌*◌, ◌≤◌, ◌<◌}
use Rattle.std.specs.Prelude.{◌≡◌, Bool, length, get_or}
use Rattle.std.proofs.Math.Path.{refl, sym, ap, ap₂}
use Rattle.std.proofs.Common.{◌∙◌, arith, add-one}
use Rattle.std.proofs.Math.Bool.{true, false}
use mathlib.Core.List.{List, [], ◌∷◌}
use Rattle.std.proofs.Math.ListN.{get_or-eq_default}
use borrow.Author.Tests.{lt-ltb, le-ltb, le-leb, lt-leb}
use Rattle.tree_json.specs.Json.{digit_of, number_json}
use Rattle.tree_read.specs.laws.Eaten.{gone}
use Rattle.tree_json.specs.Reading.{ate, is_digit, digits_at, number_at}

-- ── the digits ──
module _ (js : List ℕ) (v at : ℕ) where
  by-digit : (k : ℕ) (t : Bool) → is_digit (get_or js at 0) ≡ t
      → digits_at (suc k) v js at ≡ elim t as (λ x. ℕ) [ true ↦ digits_at k (10 * v + (get_or js at 0 - 48)) js (suc at) | false ↦ v ]
  unfolding digits_at
  by-digit k t e = ap (λ (u : Bool). elim u as (λ x. ℕ) [ true ↦ digits_at k (10 * v + (get_or js at 0 - 48)) js (suc at) | false ↦ v ]) e

  no_digit : (k : ℕ) → is_digit (get_or js at 0) ≡ false → v ≡ digits_at k v js at
  unfolding digits_at
  no_digit zero e = refl
  no_digit (suc k) e = sym (by-digit k false e)

  pub digits-past : (k : ℕ) → length js ≤ at → v ≡ digits_at k v js at
  digits-past k h = no_digit k (ap is_digit (get_or-eq_default js 0 h))

  pub digits_low : (k : ℕ) → get_or js at 0 < 48 → v ≡ digits_at k v js at
  digits_low k h = no_digit k (rw (lt-leb 48 (get_or js at 0) h))

  pub digits-high : (k : ℕ) → 57 < get_or js at 0 → v ≡ digits_at k v js at
  digits-high k h = no_digit k (rw (le-leb 48 (get_or js at 0) (omega arith), lt-leb (get_or js at 0) 57 h))

  pub digits-done : (k : ℕ) → k ≡ 0 → v ≡ digits_at k v js at
  unfolding digits_at
  digits-done k e = sym (ap (λ (n : ℕ). digits_at n v js at) e)

  pub digits_more : (k : ℕ) → 0 < k → 48 ≤ get_or js at 0 → get_or js at 0 ≤ 57 → digits_at k v js at ≡ digits_at (k - 1) (10 * v + (get_or js at 0 - 48)) js (at + 1)
  digits_more k l h g =
      let e : k ≡ suc (k - 1) = omega arith in
      ap (λ (n : ℕ). digits_at n v js at) e ∙ by-digit (k - 1) true (rw (le-leb 48 (get_or js at 0) h, le-leb (get_or js at 0) 57 g))
      ∙ ap (λ (n : ℕ). digits_at (k - 1) (10 * v + (get_or js at 0 - 48)) js n) (sym (add-one at))

-- ── the greatest number of five digits less k ──
abbrev pub most_by : ℕ → ℕ
most_by zero = 99999
most_by (suc zero) = 9999
most_by (suc (suc zero)) = 999
most_by (suc (suc (suc zero))) = 99
most_by (suc (suc (suc (suc zero)))) = 9
most_by (suc (suc (suc (suc (suc k))))) = 0

pub most-all : (k v : ℕ) → v ≤ most_by k → v ≤ 99999
most-all zero v h = h
most-all (suc zero) v h = omega arith
most-all (suc (suc zero)) v h = omega arith
most-all (suc (suc (suc zero))) v h = omega arith
most-all (suc (suc (suc (suc zero)))) v h = omega arith
most-all (suc (suc (suc (suc (suc k))))) v h = omega arith

pub most-more : (k v d : ℕ) → 0 < k → k ≤ 5 → v ≤ most_by k → d ≤ 9 → 10 * v + d ≤ most_by (k - 1)
most-more zero v d l u h g = absurd (omega arith)
most-more (suc zero) v d l u h g = omega arith
most-more (suc (suc zero)) v d l u h g = omega arith
most-more (suc (suc (suc zero))) v d l u h g = omega arith
most-more (suc (suc (suc (suc zero)))) v d l u h g = omega arith
most-more (suc (suc (suc (suc (suc zero))))) v d l u h g = omega arith
most-more (suc (suc (suc (suc (suc (suc k)))))) v d l u h g = absurd (omega arith)

-- ── how a number is written: e is the digit of ones, d that of tens and so on ──
module _ (v e : ℕ) (ones : e ≡ digit_of 1 v) where
  pub one_place : v < 10 → e ∷ [] ≡ number_json v
  unfolding number_json
  one_place h = ap (λ (x : ℕ). x ∷ []) ones ∙ sym (rw (lt-ltb v 10 h))

  module _ (d : ℕ) (second : d ≡ digit_of 10 v) (l₂ : 10 ≤ v) where
    two : d ∷ e ∷ [] ≡ digit_of 10 v ∷ digit_of 1 v ∷ []
    two = ap₂ ◌∷◌ second (ap (λ (x : ℕ). x ∷ []) ones)

    pub two-places : v < 100 → d ∷ e ∷ [] ≡ number_json v
    unfolding number_json
    two-places h = two ∙ sym (rw (le-ltb v 10 l₂, lt-ltb v 100 h))

    module _ (c : ℕ) (third : c ≡ digit_of 100 v) (l₃ : 100 ≤ v) where
      three : c ∷ d ∷ e ∷ [] ≡ digit_of 100 v ∷ digit_of 10 v ∷ digit_of 1 v ∷ []
      three = ap₂ ◌∷◌ third two

      pub three-places : v < 1000 → c ∷ d ∷ e ∷ [] ≡ number_json v
      unfolding number_json
      three-places h = three ∙ sym (rw (le-ltb v 10 l₂, le-ltb v 100 l₃, lt-ltb v 1000 h))

      module _ (b : ℕ) (fourth : b ≡ digit_of 1000 v) (l₄ : 1000 ≤ v) where
        four : b ∷ c ∷ d ∷ e ∷ [] ≡ digit_of 1000 v ∷ digit_of 100 v ∷ digit_of 10 v ∷ digit_of 1 v ∷ []
        four = ap₂ ◌∷◌ fourth three

        pub four-places : v < 10000 → b ∷ c ∷ d ∷ e ∷ [] ≡ number_json v
        unfolding number_json
        four-places h = four ∙ sym (rw (le-ltb v 10 l₂, le-ltb v 100 l₃, le-ltb v 1000 l₄, lt-ltb v 10000 h))

        pub five-places : (a : ℕ) → a ≡ digit_of 10000 v → 10000 ≤ v → a ∷ b ∷ c ∷ d ∷ e ∷ [] ≡ number_json v
        unfolding number_json
        five-places a g h = ap₂ ◌∷◌ g four ∙ sym (rw (le-ltb v 10 l₂, le-ltb v 100 l₃, le-ltb v 1000 l₄, le-ltb v 10000 h))

-- the number, and the place behind it
module _ (js : List ℕ) (at v : ℕ) (e : v ≡ digits_at 5 0 js at) where
  pub number-value : v ≡ (number_at js at).value
  unfolding number_at
  number-value = e

  pub number-place : ate (number_json v) js at ≡ (number_at js at).place
  unfolding number_at
  number-place = ap (λ (n : ℕ). ate (number_json n) js at) e

pub number-gone : (js : List ℕ) (at : ℕ) → length js < at → length js < (number_at js at).place
unfolding number_at
number-gone js at h = gone js (number_json (digits_at 5 0 js at)) at h
