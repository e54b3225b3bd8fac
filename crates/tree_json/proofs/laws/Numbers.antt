-- A number in a text, both ways: it is read as it is written, and what is read stands there so. Assumes nothing.
use Rattle.std.specs.Prelude.{ℕ, zero, suc, ◌+◌, ◌-◌, ◌*◌, ◌/◌, ◌%◌, ◌≤◌, ◌<◌, ◌≡◌, refl, Bool, true, false, cond, List, [], ◌∷◌, ◌++◌, ltb, length}
use Rattle.std.proofs.Common.{sym, ap, subst, ◌∙◌, arith, div-one, ltb-true, le-leb}
use Rattle.std.proofs.Math.Nat.{div-div-eq-div-mul}
use Rattle.base_facts.specs.laws.Bools.{and_both}
use Rattle.tree_json.specs.Json.{digit_of, number_json}
use Rattle.tree_json.specs.Reading.{is_digit, digits_at, number_at}
use Rattle.tree_json.proofs.laws.Places.{Stands, Ate, ate-only, ate-back, Next, next}

-- ── what was read is a number ──
pub number-only : (js : List ℕ) (at : ℕ) → (number_at js at).place ≤ length js → Ate (number_json (number_at js at).value) js at (number_at js at).place
unfolding number_at
number-only js at h = ate-only (number_json (digits_at 5 0 js at)) js at h

-- ── digits that stand there are read ──
abbrev value_of : ℕ → List ℕ → ℕ
value_of v [] = v
value_of v (c ∷ ds) = value_of (10 * v + (c - 48)) ds

abbrev Digits : List ℕ → Type 0
Digits [] = Unit {0}
Digits (c ∷ ds) = (is_digit c ≡ true) × Digits ds

digit-on : {js : List ℕ} {at c : ℕ} {w : List ℕ} (k v : ℕ) → Stands js at (c ∷ w) → is_digit c ≡ true → digits_at (suc k) v js at ≡ digits_at k (10 * v + (c - 48)) js (suc at)
unfolding digits_at
digit-on {js} {at} {c} {w} k v t e =
    let n : Next js at c w = next t in
    ap (λ (b : ℕ). elim (is_digit b) [ true ↦ digits_at k (10 * v + (b - 48)) js (suc at) | false ↦ v ]) n.byte
    ∙ ap (λ (x : Bool). elim x [ true ↦ digits_at k (10 * v + (c - 48)) js (suc at) | false ↦ v ]) e

digits-end : {js : List ℕ} {at c : ℕ} {w : List ℕ} (k v : ℕ) → Stands js at (c ∷ w) → is_digit c ≡ false → digits_at k v js at ≡ v
unfolding digits_at
digits-end zero v t e = refl
digits-end {js} {at} {c} {w} (suc k) v t e =
    let n : Next js at c w = next t in
    ap (λ (b : ℕ). elim (is_digit b) [ true ↦ digits_at k (10 * v + (b - 48)) js (suc at) | false ↦ v ]) n.byte
    ∙ ap (λ (x : Bool). elim x [ true ↦ digits_at k (10 * v + (c - 48)) js (suc at) | false ↦ v ]) e

digits-back : (ds : List ℕ) (k v c : ℕ) (z : List ℕ) {js : List ℕ} {at : ℕ} → Digits ds → length ds ≤ k → is_digit c ≡ false → Stands js at (ds ++ (c ∷ z)) → digits_at k v js at ≡ value_of v ds
digits-back [] k v c z h l e t = digits-end k v t e
digits-back (b ∷ ds) zero v c z h l e t = absurd (omega arith)
digits-back (b ∷ ds) (suc k) v c z h l e t = digit-on k v t h.0 ∙ digits-back ds k (10 * v + (b - 48)) c z h.1 (omega arith) e (next t).behind

-- ── what a number's digits say ──
record Written (n : ℕ) (ds : List ℕ) : Type 0 where
  digits : Digits ds
  short : length ds ≤ 5
  says : value_of 0 ds ≡ n

by-test : (P : List ℕ → Type 0) (b : Bool) (x y : List ℕ) → (b ≡ true → P x) → (b ≡ false → P y) → P (cond b x y)
by-test P true x y h k = h refl
by-test P false x y h k = k refl

is_digit_lem : (k n : ℕ) → is_digit (digit_of k n) ≡ true
is_digit_lem k n = let x : ℕ = n / k in and_both _ _ (le-leb 48 (48 + x % 10) (omega arith)) (le-leb (48 + x % 10) 57 (omega arith))

first-digit : (x : ℕ) → x < 10 → 10 * 0 + (48 + x % 10 - 48) ≡ x
first-digit x l = omega arith

-- a digit more
one_more : (k n v : ℕ) → v ≡ n / (k * 10) → 10 * v + (digit_of k n - 48) ≡ n / k
one_more k n v e = let x : ℕ = n / k in let h : x / 10 ≡ v = div-div-eq-div-mul n k 10 ∙ sym e in tenfold x v h
  where
    tenfold : (x v : ℕ) → x / 10 ≡ v → 10 * v + (48 + x % 10 - 48) ≡ x
    tenfold x v h = omega arith

last-digit : (n v : ℕ) → v ≡ n / 10 → 10 * v + (digit_of 1 n - 48) ≡ n
last-digit n v e = one_more 1 n v e ∙ div-one n

one-digit : (n : ℕ) → n < 10 → Written n (digit_of 1 n ∷ [])
one-digit n l = record { digits = (is_digit_lem 1 n, tt); short = omega arith; says = omega arith }

two_digits : (n : ℕ) → n < 100 → Written n (digit_of 10 n ∷ digit_of 1 n ∷ [])
two_digits n l = record { digits = (is_digit_lem 10 n, (is_digit_lem 1 n, tt)); short = omega arith; says = last-digit n _ (first-digit (n / 10) (omega arith)) }

three-digits : (n : ℕ) → n < 1000 → Written n (digit_of 100 n ∷ digit_of 10 n ∷ digit_of 1 n ∷ [])
three-digits n l =
    record {
      digits = (is_digit_lem 100 n, (is_digit_lem 10 n, (is_digit_lem 1 n, tt)));
      short = omega arith;
      says = last-digit n _ (one_more 10 n _ (first-digit (n / 100) (omega arith)));
    }

four-digits : (n : ℕ) → n < 10000 → Written n (digit_of 1000 n ∷ digit_of 100 n ∷ digit_of 10 n ∷ digit_of 1 n ∷ [])
four-digits n l =
    record {
      digits = (is_digit_lem 1000 n, (is_digit_lem 100 n, (is_digit_lem 10 n, (is_digit_lem 1 n, tt))));
      short = omega arith;
      says = last-digit n _ (one_more 10 n _ (one_more 100 n _ (first-digit (n / 1000) (omega arith))));
    }

five-digits : (n : ℕ) → n < 100000 → Written n (digit_of 10000 n ∷ digit_of 1000 n ∷ digit_of 100 n ∷ digit_of 10 n ∷ digit_of 1 n ∷ [])
five-digits n l =
    record {
      digits = (is_digit_lem 10000 n, (is_digit_lem 1000 n, (is_digit_lem 100 n, (is_digit_lem 10 n, (is_digit_lem 1 n, tt)))));
      short = omega arith;
      says = last-digit n _ (one_more 10 n _ (one_more 100 n _ (one_more 1000 n _ (first-digit (n / 10000) (omega arith)))));
    }

written : (n : ℕ) → n < 100000 → Written n (number_json n)
unfolding number_json
written n l =
    by-test (Written n) (ltb n 10) _ _ (λ e. one-digit n (ltb-true n 10 e)) (λ _.
    by-test (Written n) (ltb n 100) _ _ (λ e. two_digits n (ltb-true n 100 e)) (λ _.
    by-test (Written n) (ltb n 1000) _ _ (λ e. three-digits n (ltb-true n 1000 e)) (λ _.
    by-test (Written n) (ltb n 10000) _ _ (λ e. four-digits n (ltb-true n 10000 e)) (λ _. five-digits n l))))

-- a number that stands there is read: behind it stands a byte c, no digit
pub number-value : (n c : ℕ) (z : List ℕ) {js : List ℕ} {at : ℕ} → n < 100000 → is_digit c ≡ false → Stands js at (number_json n ++ (c ∷ z)) → (number_at js at).value ≡ n
unfolding number_at
number-value n c z l e t = let w : Written n (number_json n) = written n l in digits-back (number_json n) 5 0 c z w.digits w.short e t ∙ w.says

pub number-back : (n c : ℕ) (z : List ℕ) {js : List ℕ} {at : ℕ} → n < 100000 → is_digit c ≡ false → Stands js at (number_json n ++ (c ∷ z)) → Stands js (number_at js at).place (c ∷ z)
unfolding number_at
number-back n c z {js} {at} l e t =
    let v : digits_at 5 0 js at ≡ n = number-value n c z l e t in
    ate-back (number_json (digits_at 5 0 js at)) (subst (λ (m : ℕ). Stands js at (number_json m ++ (c ∷ z))) (sym v) t)
