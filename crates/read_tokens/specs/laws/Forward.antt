-- A token lies behind the place that it was asked at, takes a byte at least, and ends within the text. So the text's length is fuel enough
-- for its tokens, and the token list has two laws that speak of no fuel: for the text's end and for a token. Assumes nothing.
use Rattle.std.specs.Prelude.{ℕ, zero, suc, ◌+◌, ◌≤◌, ◌<◌, ◌≡◌, refl, Bool, eqb, length, drop}
use Rattle.std.proofs.Common.{sym, ap, ◌∙◌, arith, le_refl, length-drop}
use Rattle.std.proofs.Math.Bool.{true, false}
use Rattle.std.proofs.Math.Option.{Option, none, some}
use mathlib.Core.List.{List, [], ◌∷◌}
use borrow.Author.Tests.{eqb-true}
use Rattle.read_tokens.specs.Kinds.{kind_at}
use Rattle.read_tokens.specs.declared.Mode.{Mode}
use Rattle.read_tokens.specs.declared.Mode.TheVariants.{Lake, Plain}
use Rattle.read_tokens.specs.Token.{name, lake, any, Tok, symbol, leaf, pre, suf, arrow, slash, opens, closes, bad, Token, Lexeme}
use Rattle.read_tokens.specs.Chars.{Range, Item, single, listed, Body, shut, broken, also, by_width, shut_by, body}
use Rattle.read_tokens.specs.Tokens.{tok, blank_by, skip, name_byte, name_span, lake_by, angle, literal_by, some_true, class_marks, class_token, class_by, bracket, pre_of, suf_of, by_kind, token_from, token_at, lexeme, by_end, lexemes_from}
use Rattle.read_tokens.specs.laws.Tests.{by-test, by_cond}

-- ── where a literal's or a class's body ends ──
abbrev pub Ended : Body → ℕ → ℕ → Type 0
Ended (shut rs e) at n = (at < e) × (e ≤ n)
Ended broken at n = Unit {0}

also-ended : (r : Range) (o : Body) (at n : ℕ) → Ended o (suc at) n → Ended (also r o) at n
also-ended r (shut rs e) at n h = (omega (arith, h.0), h.1)
also-ended r broken at n h = tt

width-ended : (w : ℕ) (r : Range) (k : ℕ → Body) (at n : ℕ) → ((j : ℕ) → Ended (k j) (suc at) n) → Ended (by_width w r k) at n
width-ended zero r k at n h = tt
width-ended (suc w) r k at n h = also-ended r (k w) at n (h w)

turn-ended : (x : Bool) (i : Item) (k : ℕ → Body) (at n : ℕ) → at < n → ((j : ℕ) → Ended (k j) (suc at) n) → Ended (shut_by x at i k) at n
turn-ended true i k at n l h = (omega arith, l)
turn-ended false i k at n l h = width-ended i.width i.span k at n h

weaker : (o : Body) (a b n : ℕ) → b ≤ a → Ended o a n → Ended o b n
weaker (shut rs e) a b n l h = (omega (arith, h.0), h.1)
weaker broken a b n l h = tt

pub body_ended : (close : ℕ) (step : List ℕ → Item) (k at : ℕ) (l : List ℕ) (n : ℕ) → at + length l ≤ n → Ended (body close step k at l) at n
unfolding body
body_ended close step zero at [] n h = tt
body_ended close step (suc k) at [] n h = tt
body_ended close step zero at (b ∷ l) n h =
    turn-ended (eqb b close) (step (b ∷ l)) (λ j. body close step j (suc at) l) at n (omega arith) (λ j. body_ended close step j (suc at) l n (omega arith))
body_ended close step (suc k) at (b ∷ l) n h = weaker (body close step k (suc at) l) (suc at) at n (omega arith) (body_ended close step k (suc at) l n (omega arith))

-- ── names ──
span-short : (l : List ℕ) → length (name_span l) ≤ length l
unfolding name_span
span-short [] = omega arith
span-short (b ∷ l) = go (name_byte b) (span-short l)
  where
    go : (x : Bool) → length (name_span l) ≤ length l → length {A = ℕ} (elim x [ true ↦ b ∷ name_span l | false ↦ [] ]) ≤ suc (length l)
    go true h = omega arith
    go false h = omega arith

pub letter-name : (b : ℕ) → kind_at b ≡ 2 → name_byte b ≡ true
letter-name b e = rw (name_byte, e)

pub span-letter : (b : ℕ) (l : List ℕ) → kind_at b ≡ 2 → name_span (b ∷ l) ≡ b ∷ name_span l
unfolding name_span
span-letter b l e = rw (name_span, letter-name b e)

-- ── a token other than the text's end ──
pub record Ahead (at n : ℕ) (t : Token) : Type 0 where
  pub behind : at ≤ t.start
  pub long : t.start < t.next
  pub within : t.next ≤ n

abbrev Fwd : ℕ → ℕ → Token → Type 0
Fwd at n t = (x : Tok) → t.is ≡ some x → Ahead at n t

module _ (at n : ℕ) where
  sound : (t : Token) → at ≤ t.start → t.start < t.next → t.next ≤ n → Fwd at n t
  sound t a b c x e = record { behind = a; long = b; within = c }

  byte : (t : Tok) (i : ℕ) → at ≤ i → suc i ≤ n → Fwd at n (tok t i (suc i))
  byte t i a b = sound (tok t i (suc i)) a (omega arith) b

  literal-fwd : (i : ℕ) (o : Body) → at ≤ i → i < n → Ended o (suc i) n → Fwd at n (literal_by i o)
  unfolding literal_by
  literal-fwd i broken a b h = byte bad i a b
  literal-fwd i (shut [] e) a b h = byte bad i a b
  literal-fwd i (shut (r ∷ rs) e) a b h = sound (literal_by i (shut (r ∷ rs) e)) a (omega (arith, h.0)) h.1

  marked-fwd : (x : Bool) (l : List Bool) (i e : ℕ) → at ≤ i → i < n → i < e → e ≤ n → Fwd at n (class_token x l i e)
  marked-fwd true l i e a b h k = sound (class_token true l i e) a h k
  marked-fwd false l i e a b h k = byte bad i a b

  class-fwd : (c : Bool) (i : ℕ) (o : Body) → at ≤ i → i < n → Ended o (suc i) n → Fwd at n (class_by c i o)
  unfolding class_by
  class-fwd c i broken a b h = byte bad i a b
  class-fwd c i (shut [] e) a b h = byte bad i a b
  class-fwd c i (shut (r ∷ rs) e) a b h = marked-fwd (some_true (class_marks c (r ∷ rs))) (class_marks c (r ∷ rs)) i e a b (omega (arith, h.0)) h.1

  bracket-fwd : (m : Mode) (i : ℕ) (l : List ℕ) → at ≤ i → suc i + length l ≤ n → Fwd at n (bracket m i l)
  unfolding bracket
  bracket-fwd Plain i [] a h = byte bad i a (omega arith)
  bracket-fwd Lake i [] a h = byte bad i a (omega arith)
  bracket-fwd Plain i (b ∷ l) a h = class-fwd false i (body 93 listed 0 (suc i) (b ∷ l)) a (omega arith) (body_ended 93 listed 0 (suc i) (b ∷ l) n h)
  bracket-fwd Lake i (b ∷ l) a h =
      by-test (Fwd at n) (eqb b 94) _ _
      (λ _. class-fwd true i (body 93 listed 0 (suc (suc i)) l) a (omega arith)
      (weaker (body 93 listed 0 (suc (suc i)) l) (suc (suc i)) (suc i) n (omega arith) (body_ended 93 listed 0 (suc (suc i)) l n (omega arith))))
      (class-fwd false i (body 93 listed 0 (suc i) (b ∷ l)) a (omega arith) (body_ended 93 listed 0 (suc i) (b ∷ l) n h))

  lake-fwd : (i : ℕ) (w l r : List ℕ) → at ≤ i → suc i + length l ≤ n → r ≡ drop (length w) l → Fwd at n (lake_by i w r)
  lake-fwd i w l [] a h e = byte bad i a (omega arith)
  lake-fwd i w l (b ∷ r) a h e =
      by_cond (Fwd at n) (eqb b 62) _ _ (sound (tok (symbol (lake w)) i (i + length w + 2)) a (omega arith) (omega (arith, ap length e, length-drop (length w) l)))
      (byte bad i a (omega arith))

  less-fwd : (m : Mode) (i : ℕ) (l : List ℕ) → at ≤ i → suc i + length l ≤ n → Fwd at n (angle m i l)
  unfolding angle
  less-fwd Plain i [] a h = byte bad i a (omega arith)
  less-fwd Lake i [] a h = byte bad i a (omega arith)
  less-fwd Plain i (b ∷ l) a h = by_cond (Fwd at n) (eqb b 45) _ _ (sound (tok arrow i (i + 2)) a (omega arith) (omega arith)) (byte bad i a (omega arith))
  less-fwd Lake i (b ∷ l) a h =
      by-test (Fwd at n) (eqb b 45) _ _ (λ _. sound (tok arrow i (i + 2)) a (omega arith) (omega arith)) (
      by-test (Fwd at n) (eqb (kind_at b) 2) _ _ (λ _. lake-fwd i (name_span (b ∷ l)) (b ∷ l) (drop (length (name_span (b ∷ l))) (b ∷ l)) a h refl)
      (byte bad i a (omega arith)))

  name-fwd : (b i : ℕ) (l : List ℕ) → at ≤ i → kind_at b ≡ 2 → suc i + length l ≤ n → Fwd at n (tok (symbol (name (name_span (b ∷ l)))) i (i + length (name_span (b ∷ l))))
  name-fwd b i l a e h =
      sound (tok (symbol (name (name_span (b ∷ l)))) i (i + length (name_span (b ∷ l)))) a (omega (arith, ap length (span-letter b l e))) (omega (arith, span-short (b ∷ l)))

  kind-fwd : (k : ℕ) (m : Mode) (b i : ℕ) (l : List ℕ) → at ≤ i → kind_at b ≡ k → suc i + length l ≤ n → Fwd at n (by_kind k m b i l)
  unfolding by_kind
  kind-fwd k m b i l a e h =
      let one : (t : Tok) → Fwd at n (tok t i (suc i)) = λ t. byte t i a (omega arith) in
      by-test (Fwd at n) (eqb k 2) _ _ (λ x. name-fwd b i l a (e ∙ eqb-true k 2 x) h) (
      by-test (Fwd at n) (eqb k 5) _ _ (λ _. one opens) (
      by-test (Fwd at n) (eqb k 6) _ _ (λ _. one closes) (
      by-test (Fwd at n) (eqb k 7) _ _ (λ _. one slash) (
      by-test (Fwd at n) (eqb k 8) _ _ (λ _. one (pre (pre_of b))) (
      by-test (Fwd at n) (eqb k 9) _ _ (λ _. one (suf (suf_of b))) (
      by-test (Fwd at n) (eqb k 10) _ _ (λ _. one (leaf any)) (
      by-test (Fwd at n) (eqb k 11) _ _ (λ _. literal-fwd i (body b single 0 (suc i) l) a (omega arith) (body_ended b single 0 (suc i) l n h)) (
      by-test (Fwd at n) (eqb k 12) _ _ (λ _. bracket-fwd m i l a h) (
      by-test (Fwd at n) (eqb k 13) _ _ (λ _. less-fwd m i l a h) (one bad))))))))))

skip-from : (inside : Bool) (at : ℕ) (l : List ℕ) → at ≤ skip inside at l
unfolding skip
skip-from inside at [] = le_refl at
skip-from inside at (b ∷ l) = go (eqb (blank_by inside b) 2) (skip-from (eqb (blank_by inside b) 1) (suc at) l)
  where
    go : (x : Bool) → suc at ≤ skip (eqb (blank_by inside b) 1) (suc at) l → at ≤ elim x [ true ↦ at | false ↦ skip (eqb (blank_by inside b) 1) (suc at) l ]
    go true h = le_refl at
    go false h = omega arith

from-fwd : (s : List ℕ) (i : ℕ) (l : List ℕ) (m : Mode) (at : ℕ) → at ≤ i → l ≡ drop i s → Fwd at (length s) (token_from m i l)
unfolding token_from
from-fwd s i [] m at a e = λ x f. let z : ◌≡◌ {A = ℕ} 0 1 = cc in absurd (omega arith)
from-fwd s i (b ∷ l) m at a e = kind-fwd at (length s) (kind_at b) m b i l a refl (omega (arith, ap length e, length-drop i s))

pub forward : (m : Mode) (s : List ℕ) (at : ℕ) (t : Tok) → (token_at m s at).is ≡ some t → Ahead at (length s) (token_at m s at)
unfolding token_at
forward m s at = let i = skip false at (drop at s) in from-fwd s i (drop i s) m at (skip-from false at (drop at s)) refl

-- ── fuel ──
end_same : (o : Option Tok) (i e : ℕ) (h k : ℕ → List Lexeme) → ((t : Tok) → o ≡ some t → h e ≡ k e) → by_end o i e h ≡ by_end o i e k
end_same none i e h k g = refl
end_same (some t) i e h k g = ap (λ (l : List Lexeme). lexeme t i ∷ l) (g t refl)

end_none : (o : Option Tok) (i e : ℕ) (k : ℕ → List Lexeme) → ((t : Tok) → o ≡ some t → ⊥) → by_end o i e k ≡ []
end_none none i e k g = refl
end_none (some t) i e k g = absurd (g t refl)

pub none_left : (f : ℕ) (m : Mode) (s : List ℕ) (at : ℕ) → length s ≤ at → lexemes_from f m s at ≡ []
unfolding lexemes_from
none_left zero m s at h = refl
none_left (suc f) m s at h =
    end_none (token_at m s at).is (token_at m s at).start (token_at m s at).next (λ j. lexemes_from f m s j) (λ t e. let a = forward m s at t e in omega arith)

-- any fuel of the bytes that are left or more gives the same tokens
pub enough : (f g : ℕ) (m : Mode) (s : List ℕ) (at : ℕ) → length s ≤ at + f → length s ≤ at + g → lexemes_from f m s at ≡ lexemes_from g m s at
unfolding lexemes_from
enough zero g m s at h k = sym (none_left g m s at (omega arith))
enough (suc f) zero m s at h k = none_left (suc f) m s at (omega arith)
enough (suc f) (suc g) m s at h k =
    end_same (token_at m s at).is (token_at m s at).start (token_at m s at).next (λ j. lexemes_from f m s j) (λ j. lexemes_from g m s j)
    (λ t e. let a = forward m s at t e in enough f g m s (token_at m s at).next (omega arith) (omega arith))

-- the tokens from a place on
abbrev pub lexemes_at : Mode → List ℕ → ℕ → List Lexeme
lexemes_at m s at = lexemes_from (length s) m s at

more-fuel : (m : Mode) (s : List ℕ) (at : ℕ) → lexemes_at m s at ≡ lexemes_from (suc (length s)) m s at
more-fuel m s at = enough (length s) (suc (length s)) m s at (omega arith) (omega arith)

pub lex-end : (m : Mode) (s : List ℕ) (at : ℕ) → (token_at m s at).is ≡ none → lexemes_at m s at ≡ []
unfolding lexemes_from
lex-end m s at e =
    more-fuel m s at ∙ ap (λ (o : Option Tok). by_end o (token_at m s at).start (token_at m s at).next (λ n. lexemes_at m s n)) e

pub lex-more : (m : Mode) (s : List ℕ) (at : ℕ) (t : Tok) → (token_at m s at).is ≡ some t → lexemes_at m s at ≡ lexeme t (token_at m s at).start ∷ lexemes_at m s (token_at m s at).next
unfolding lexemes_from
lex-more m s at t e =
    more-fuel m s at ∙ ap (λ (o : Option Tok). by_end o (token_at m s at).start (token_at m s at).next (λ n. lexemes_at m s n)) e
