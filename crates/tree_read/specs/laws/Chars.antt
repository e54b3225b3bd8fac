-- The characters of the input as a string has them, by the tests that code makes. Assumes nothing.
use Prim.Native.Nat.{ℕ, suc, ◌+◌, ◌-◌, ◌/◌, ◌%◌, ◌≤◌, ◌<◌, min}
use Rattle.std.specs.Prelude.{◌≡◌, length, get_or, take, drop}
use Rattle.std.proofs.Math.Path.{sym, ap}
use Rattle.std.proofs.Common.{◌∙◌, add-one, drop_of_length-le, drop-cons, ⊎_elim}
use mathlib.Core.List.{List, [], ◌∷◌, ◌++◌}
use native.Mathlib.Omega.{arith}
use Rattle.std.proofs.Math.Seq.{take-nil}
use borrow.Author.Tests.{eq-eqb, ne_eqb, le-leb, lt-leb, lt-ltb, le-ltb}
use Rattle.tree_json.specs.Json.{hex_digit, char_json, chars_json}
use Rattle.base_facts.specs.laws.Numbers.{lt-or-ge}

pub escaped : (c h l : ℕ) → h ≡ hex_digit (c / 16) → l ≡ hex_digit (c % 16)
    → 92 ∷ 117 ∷ 48 ∷ 48 ∷ h ∷ l ∷ [] ≡ 92 ∷ 117 ∷ 48 ∷ 48 ∷ hex_digit (c / 16) ∷ hex_digit (c % 16) ∷ []
escaped c h l i j = rw (i, j)

module _ (c : ℕ) (f : c ≡ 34 → ⊥) (g : c ≡ 92 → ⊥) where
  pub below-blank : c < 32 → 92 ∷ 117 ∷ 48 ∷ 48 ∷ hex_digit (c / 16) ∷ hex_digit (c % 16) ∷ [] ≡ char_json c
  unfolding char_json
  below-blank h = sym (rw (ne_eqb c 34 f, ne_eqb c 92 g, lt-leb 32 c h))

  pub plain_byte : 32 ≤ c → c < 127 → c ∷ [] ≡ char_json c
  unfolding char_json
  plain_byte h l = sym (rw (ne_eqb c 34 f, ne_eqb c 92 g, le-leb 32 c h, lt-ltb c 127 l))

  pub from-delete : 127 ≤ c → 92 ∷ 117 ∷ 48 ∷ 48 ∷ hex_digit (c / 16) ∷ hex_digit (c % 16) ∷ [] ≡ char_json c
  unfolding char_json
  from-delete l = sym (rw (ne_eqb c 34 f, ne_eqb c 92 g, le-leb 32 c (omega arith), le-ltb c 127 l))

-- ── the bytes from i to q ──
module _ (s : List ℕ) (i q : ℕ) where
  pub part-more : i < q → i < length s → chars_json (take (q - i) (drop i s)) ≡ char_json (get_or s i 0) ++ chars_json (take (q - (i + 1)) (drop (i + 1) s))
  unfolding chars_json
  part-more h l =
      let e : q - i ≡ suc (q - (i + 1)) = omega arith in
      ap (λ (n : ℕ). chars_json (take n (drop i s))) e
      ∙ ap (λ (x : List ℕ). chars_json (take (suc (q - (i + 1))) x)) (drop-cons s i 0 l)
      ∙ ap (λ (n : ℕ). char_json (get_or s i 0) ++ chars_json (take (q - (i + 1)) (drop n s))) (sym (add-one i))

  pub part-past : length s ≤ i → chars_json (take (q - i) (drop i s)) ≡ []
  unfolding chars_json
  part-past h = ap (λ (x : List ℕ). chars_json (take (q - i) x)) (drop_of_length-le s h) ∙ ap chars_json (take-nil (q - i))

  pub part-done : q ≤ i → chars_json (take (q - i) (drop i s)) ≡ []
  unfolding chars_json
  part-done h = let e : q - i ≡ 0 = omega arith in ap (λ (n : ℕ). chars_json (take n (drop i s))) e

  pub part-end : min q (length s) ≤ i → chars_json (take (q - i) (drop i s)) ≡ []
  part-end h = ⊎_elim (λ (l : i < q). part-past (omega (arith, h, l))) part-done (lt-or-ge i q)
