-- Strings and numbers of a JSON text by the tests that code makes. Assumes nothing.
use Prim.Native.Nat.{ℕ, suc, ◌+◌, ◌-◌, ◌/◌, ◌≤◌, ◌<◌, min}
use Rattle.std.specs.Prelude.{◌≡◌, length, get_or, take, drop}
use Rattle.std.proofs.Math.Path.{sym, ap}
use Rattle.std.proofs.Common.{◌∙◌, add-one, drop_of_length-le, drop-cons}
use mathlib.Core.List.{List, [], ◌∷◌, ◌++◌}
use Rattle.std.proofs.Math.Logic.{⊎_elim}
use native.Mathlib.Omega.{arith}
use Rattle.std.proofs.Math.Seq.{take-nil}
use borrow.Author.Tests.{lt-ltb, le-ltb, le-leb, lt-leb, ne_eqb}
use Rattle.base_facts.specs.laws.Numbers.{lt-or-ge}
use Rattle.tree_json.specs.Json.{char_json, chars_json, digit_of, number_json}
use Rattle.tree_write.specs.steps.Values.{escaped, lead}

-- ── bytes as they are: what is left at i ──
module _ (s : List ℕ) (i : ℕ) where
  pub bytes-more : i < length s → drop i s ≡ (get_or s i 0 ∷ []) ++ drop (i + 1) s
  bytes-more h = rw (add-one, drop-cons s i 0)

  pub bytes-end : length s ≤ i → drop i s ≡ []
  bytes-end h = drop_of_length-le s h

-- ── a byte of a string ──
module _ (c : ℕ) (a : c ≡ 34 → ⊥) (b : c ≡ 92 → ⊥) where
  pub control : c < 32 → escaped c ≡ char_json c
  unfolding char_json
  control h = sym (rw (ne_eqb c 34 a, ne_eqb c 92 b, lt-leb 32 c h))

  pub printable : 32 ≤ c → c < 127 → c ∷ [] ≡ char_json c
  unfolding char_json
  printable h l = sym (rw (ne_eqb c 34 a, ne_eqb c 92 b, le-leb 32 c h, lt-ltb c 127 l))

  pub above : 127 ≤ c → escaped c ≡ char_json c
  unfolding char_json
  above h = sym (rw (ne_eqb c 34 a, ne_eqb c 92 b, le-leb 32 c (omega arith), le-ltb c 127 h))

-- ── the input's bytes up to q: what is left at i ──
module _ (s : List ℕ) (q i : ℕ) where
  pub chars-more : i < min q (length s)
      → chars_json (take (q - i) (drop i s)) ≡ char_json (get_or s i 0) ++ chars_json (take (q - (i + 1)) (drop (i + 1) s))
  unfolding chars_json
  chars-more h =
      let a : q - i ≡ suc (q - (i + 1)) = omega arith in
      ap (λ (n : ℕ). chars_json (take n (drop i s))) a
      ∙ ap (λ (l : List ℕ). chars_json (take (suc (q - (i + 1))) l)) (bytes-more s i (omega arith))

  pub chars-end : min q (length s) ≤ i → chars_json (take (q - i) (drop i s)) ≡ []
  unfolding chars_json
  chars-end h = ⊎_elim past reached (lt-or-ge i q)
    where
      past : i < q → chars_json (take (q - i) (drop i s)) ≡ []
      past l = ap (λ (l : List ℕ). chars_json (take (q - i) l)) (bytes-end s i (omega arith)) ∙ ap chars_json (take-nil (q - i))

      reached : q ≤ i → chars_json (take (q - i) (drop i s)) ≡ []
      reached l = let z : q - i ≡ 0 = omega arith in ap (λ (n : ℕ). chars_json (take n (drop i s))) z

-- ── a number from its first digit on ──
module _ (n k : ℕ) where
  pub digit-none : n < k → [] ≡ lead k n
  digit-none h = sym (rw (lt-ltb n k h))

module _ (n : ℕ) where
  abbrev pub digits : List ℕ
  digits = lead 10000 n ++ (lead 1000 n ++ (lead 100 n ++ (lead 10 n ++ (digit_of 1 n ∷ []))))

  whole : n / 1 ≡ n
  whole = omega arith

  five : 10000 ≤ n → digits ≡ number_json n
  unfolding number_json
  five h =
      rw (le-ltb n 10000 h, le-ltb n 1000 (omega arith), le-ltb n 100 (omega arith), le-ltb n 10 (omega arith), whole)

  four : n < 10000 → 1000 ≤ n → digits ≡ number_json n
  unfolding number_json
  four l h = rw (lt-ltb n 10000 l, le-ltb n 1000 h, le-ltb n 100 (omega arith), le-ltb n 10 (omega arith), whole)

  three : n < 1000 → 100 ≤ n → digits ≡ number_json n
  unfolding number_json
  three l h = rw (lt-ltb n 10000 (omega arith), lt-ltb n 1000 l, le-ltb n 100 h, le-ltb n 10 (omega arith), whole)

  two : n < 100 → 10 ≤ n → digits ≡ number_json n
  unfolding number_json
  two l h = rw (lt-ltb n 10000 (omega arith), lt-ltb n 1000 (omega arith), lt-ltb n 100 l, le-ltb n 10 h, whole)

  one : n < 10 → digits ≡ number_json n
  unfolding number_json
  one l = rw (lt-ltb n 10000 (omega arith), lt-ltb n 1000 (omega arith), lt-ltb n 100 (omega arith), lt-ltb n 10 l, whole)

  pub number-said : digits ≡ number_json n
  number-said =
      ⊎_elim
      (λ a. ⊎_elim (λ b. ⊎_elim (λ c. ⊎_elim one (two c) (lt-or-ge n 10)) (three b) (lt-or-ge n 100)) (four a) (lt-or-ge n 1000))
      five (lt-or-ge n 10000)
