-- The text of a byte by the tests that code makes. Assumes nothing.
use Rattle.std.specs.Prelude.{ℕ, ◌+◌, ◌/◌, ◌%◌, ◌≤◌, ◌<◌, ◌≡◌, refl, Bool, true, false, cond, ◌&&◌, List, [], ◌∷◌, eqb, leb}
use Rattle.std.proofs.Math.Path.{sym}
use Rattle.std.proofs.Common.{ap, ◌∙◌, arith}
use borrow.Author.Tests.{eq-eqb, ne_eqb, le-leb, lt-leb}
use Rattle.read_tokens.specs.Bounds.{raw_from}
use Rattle.write_rules.specs.Writing.{octal_text, byte_text, lit_char, class_char}

module _ (c : ℕ) (a : c ≡ 92 → ⊥) (b : c ≡ 10 → ⊥) (d : c ≡ 13 → ⊥) (e : c ≡ 9 → ⊥) where
  rest : byte_text c ≡ cond (leb 32 c && leb c 126) (c ∷ []) (cond (leb raw_from c) (c ∷ []) (octal_text c))
  unfolding byte_text
  rest = rw (ne_eqb c 92 a, ne_eqb c 10 b, ne_eqb c 13 d, ne_eqb c 9 e)

  pub raw : 192 ≤ c → c ∷ [] ≡ byte_text c
  unfolding raw_from
  raw h = sym (rest ∙ rw (le-leb 32 c (omega arith), lt-leb c 126 (omega arith), le-leb 192 c h))

  pub printable : 32 ≤ c → c ≤ 126 → c ∷ [] ≡ byte_text c
  printable h l = sym (rest ∙ rw (le-leb 32 c h, le-leb c 126 l))

  pub control : c < 32 → 92 ∷ (48 + c / 64) ∷ (48 + c / 8 % 8) ∷ (48 + c % 8) ∷ [] ≡ byte_text c
  unfolding raw_from
  control h = sym (rest ∙ rw (lt-leb 32 c h, lt-leb 192 c (omega arith)))

  pub middle : 126 < c → c < 192 → 92 ∷ (48 + c / 64) ∷ (48 + c / 8 % 8) ∷ (48 + c % 8) ∷ [] ≡ byte_text c
  unfolding raw_from
  middle h l = sym (rest ∙ rw (le-leb 32 c (omega arith), lt-leb c 126 h, lt-leb 192 c l))

pub plain-lit : (c : ℕ) → (c ≡ 39 → ⊥) → byte_text c ≡ lit_char c
unfolding lit_char
plain-lit c f = sym (rw (ne_eqb c 39 f))

pub plain-class : (c : ℕ) → (c ≡ 91 → ⊥) → (c ≡ 93 → ⊥) → (c ≡ 45 → ⊥) → (c ≡ 94 → ⊥) → byte_text c ≡ class_char c
unfolding class_char
plain-class c f g h i = sym (rw (ne_eqb c 91 f, ne_eqb c 93 g, ne_eqb c 45 h, ne_eqb c 94 i))
