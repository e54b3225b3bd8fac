-- A written character is read as its byte, whatever follows: one computed test over the 256 bytes with the rest of the text left open. Assumes nothing.
use Rattle.std.specs.Prelude.{ℕ, suc, ◌+◌, ◌<◌, ◌≡◌, refl, Bool, true, false, T, length}
use Rattle.std.proofs.Common.{sym, ap₂, ◌∙◌, arith}
use Rattle.std.proofs.Math.Path.{ap}
use Rattle.std.proofs.Math.Bool.{not}
use Rattle.std.proofs.lemmas.Bool.{false≢true}
use mathlib.Core.List.{List, [], ◌∷◌, ◌++◌}
use Rattle.std.proofs.Math.Dec.{eqb, eqb→eq}
use borrow.Author.Tests.{eq-eqb}
use Rattle.read_tokens.specs.Bounds.{first_octal, raw_from}
use Rattle.read_tokens.specs.Chars.{got, octals, letters, four, char, range, Item, item, Body, shut, also, body}
use Rattle.write_rules.specs.Writing.{byte_text, lit_char, class_char}
use Rattle.read_tokens.specs.laws.All.{all-at}

-- the first byte, d where there is none
abbrev pub head_d : ℕ → List ℕ → ℕ
head_d d [] = d
head_d d (b ∷ l) = b

pub of-not : (b : Bool) → T (not b) → b ≡ false
of-not true t = absurd t
of-not false t = refl

-- in a literal
module _ (c : ℕ) (h : c < 256) where
  lit-byte : (rest : List ℕ) → (char (lit_char c ++ rest)).byte ≡ c
  unfolding lit_char byte_text raw_from char four octals first_octal letters
  lit-byte rest = eqb→eq (char (lit_char c ++ rest)).byte c (all-at 256 (λ x. eqb (char (lit_char x ++ rest)).byte x) tt c h)

  lit-width : (rest : List ℕ) → (char (lit_char c ++ rest)).width ≡ length (lit_char c)
  unfolding lit_char byte_text raw_from char four octals first_octal letters
  lit-width rest =
      eqb→eq (char (lit_char c ++ rest)).width (length (lit_char c)) (all-at 256 (λ x. eqb (char (lit_char x ++ rest)).width (length (lit_char x))) tt c h)

  pub lit-char : (rest : List ℕ) → char (lit_char c ++ rest) ≡ got c (length (lit_char c))
  lit-char rest = ap₂ got (lit-byte rest) (lit-width rest)

  pub lit-head : eqb (head_d 39 (lit_char c)) 39 ≡ false
  unfolding lit_char byte_text raw_from
  lit-head = of-not (eqb (head_d 39 (lit_char c)) 39) (all-at 256 (λ x. not (eqb (head_d 39 (lit_char x)) 39)) tt c h)

  -- in a class: the first byte is no `]`, no `-` and no `^`
  class-byte : (rest : List ℕ) → (char (class_char c ++ rest)).byte ≡ c
  unfolding class_char byte_text raw_from char four octals first_octal letters
  class-byte rest = eqb→eq (char (class_char c ++ rest)).byte c (all-at 256 (λ x. eqb (char (class_char x ++ rest)).byte x) tt c h)

  class-width : (rest : List ℕ) → (char (class_char c ++ rest)).width ≡ length (class_char c)
  unfolding class_char byte_text raw_from char four octals first_octal letters
  class-width rest =
      eqb→eq (char (class_char c ++ rest)).width (length (class_char c)) (all-at 256 (λ x. eqb (char (class_char x ++ rest)).width (length (class_char x))) tt c h)

  pub class-char : (rest : List ℕ) → char (class_char c ++ rest) ≡ got c (length (class_char c))
  class-char rest = ap₂ got (class-byte rest) (class-width rest)

  pub class-close : eqb (head_d 93 (class_char c)) 93 ≡ false
  unfolding class_char byte_text raw_from
  class-close = of-not (eqb (head_d 93 (class_char c)) 93) (all-at 256 (λ x. not (eqb (head_d 93 (class_char x)) 93)) tt c h)

  pub class-dash : eqb (head_d 93 (class_char c)) 45 ≡ false
  unfolding class_char byte_text raw_from
  class-dash = of-not (eqb (head_d 93 (class_char c)) 45) (all-at 256 (λ x. not (eqb (head_d 93 (class_char x)) 45)) tt c h)

  pub class-caret : eqb (head_d 93 (class_char c)) 94 ≡ false
  unfolding class_char byte_text raw_from
  class-caret = of-not (eqb (head_d 93 (class_char c)) 94) (all-at 256 (λ x. not (eqb (head_d 93 (class_char x)) 94)) tt c h)

-- the loop over any closing byte and step
module _ (close : ℕ) (step : List ℕ → Item) where
  pub passes : (w rest : List ℕ) (at : ℕ) → body close step (length w) at (w ++ rest) ≡ body close step 0 (at + length w) rest
  unfolding body
  passes [] rest at = ap (λ (n : ℕ). body close step 0 n rest) (omega arith)
  passes (b ∷ w) rest at = passes w rest (suc at) ∙ ap (λ (n : ℕ). body close step 0 n rest) (omega arith)

  pub turn : (w rest : List ℕ) (at lo hi : ℕ) → eqb (head_d close w) close ≡ false → step (w ++ rest) ≡ item lo hi (length w)
      → body close step 0 at (w ++ rest) ≡ also (range lo hi) (body close step 0 (at + length w) rest)
  unfolding body
  turn [] rest at lo hi h e = absurd (false≢true (sym h ∙ eq-eqb close close refl))
  turn (b ∷ w) rest at lo hi h e =
      rw (h, e) (ap (λ (o : Body). also (range lo hi) o) (passes w rest (suc at) ∙ ap (λ (n : ℕ). body close step 0 n rest) (omega arith)))

  pub ends : (rest : List ℕ) (at : ℕ) → body close step 0 at (close ∷ rest) ≡ shut [] (suc at)
  unfolding body
  ends rest at = rw (eq-eqb close close refl)
