-- What a token holds is read again from the text by its place: a name's bytes stand there, a literal's are those of its characters one after the
-- other, a class's marks are those of the class at its `[`. Assumes nothing.
use Rattle.std.specs.Prelude.{ℕ, zero, suc, ◌+◌, ◌≡◌, Bool, eqb, length}
use Rattle.std.proofs.Math.Path.{refl, ap}
use Rattle.std.proofs.Common.{sym, ◌∙◌, subst, arith, drop-drop}
use Rattle.std.proofs.Math.Bool.{true, false}
use Rattle.std.proofs.Math.Option.{Option, none, some}
use mathlib.Core.List.{List, [], ◌∷◌, map}
use Rattle.std.proofs.Math.ListN.{drop, take}
use Rattle.std.proofs.lemmas.List.{length-map}
use Rattle.read_tokens.specs.Kinds.{kind_at}
use Rattle.read_tokens.specs.declared.Mode.{Mode}
use Rattle.read_tokens.specs.declared.Mode.TheVariants.{Lake, Plain}
use Rattle.read_tokens.specs.Token.{Symbol, name, lake, Leaf, any, literal, class, Tok, symbol, leaf, pre, suf, arrow, slash, opens, closes, bad, Token}
use Rattle.read_tokens.specs.Chars.{char, Range, range, single, listed, Body, shut, broken, also, by_width, shut_by, body}
use Rattle.read_tokens.specs.Tokens.{skip, name_byte, name_span, lake_by, angle, low_of, literal_by, some_true, class_marks, class_token, class_by, bracket, by_kind, token_from, token_at}
use Rattle.read_tokens.specs.laws.Tests.{by-test, by_cond}
use Rattle.read_tokens.specs.laws.Passing.{from, passed}
use Rattle.read_tokens.specs.steps.Code.{literal_from, class_is, class_at, Class}

-- ── a literal ──
-- one turn, from its end
taken : (q i : ℕ) (x : List ℕ) (r : Range) (rs : List Range) (e : ℕ) → body q single 0 i x ≡ shut (r ∷ rs) e
    → (k : ℕ) × ((char x).width ≡ suc k) × ((char x).byte ≡ r.lo) × (body q single k (suc i) (drop 1 x) ≡ shut rs e)
unfolding body single
taken q i [] r rs e h = let z : ◌≡◌ {A = ℕ} 0 1 = cc in absurd (omega arith)
taken q i (b ∷ l) r rs e h = go (eqb b q) h
  where
    Turn : Type 0
    Turn = (k : ℕ) × ((char (b ∷ l)).width ≡ suc k) × ((char (b ∷ l)).byte ≡ r.lo) × (body q single k (suc i) l ≡ shut rs e)

    rest : (k : ℕ) → (char (b ∷ l)).width ≡ suc k → (o : Body) → body q single k (suc i) l ≡ o → also (range (char (b ∷ l)).byte (char (b ∷ l)).byte) o ≡ shut (r ∷ rs) e → Turn
    rest k f (shut us n) g h =
        let p : range (char (b ∷ l)).byte (char (b ∷ l)).byte ≡ r = cc in
        let u : shut us n ≡ shut rs e = cc in
        (k, f, ap (λ (x : Range). x.lo) p, g ∙ u)
    rest k f broken g h = let z : ◌≡◌ {A = ℕ} 0 1 = cc in absurd (omega arith)

    wide : (w : ℕ) → (char (b ∷ l)).width ≡ w → by_width w (range (char (b ∷ l)).byte (char (b ∷ l)).byte) (λ n. body q single n (suc i) l) ≡ shut (r ∷ rs) e → Turn
    wide zero f h = let z : ◌≡◌ {A = ℕ} 0 1 = cc in absurd (omega arith)
    wide (suc k) f h = rest k f (body q single k (suc i) l) refl h

    go : (x : Bool) → shut_by x i (single (b ∷ l)) (λ n. body q single n (suc i) l) ≡ shut (r ∷ rs) e → Turn
    go true h = let z : ◌≡◌ {A = ℕ} 0 1 = cc in absurd (omega arith)
    go false h = wide (char (b ∷ l)).width refl h

-- the decoded bytes are those of the characters, one after the other
pub literal-chars : (q : ℕ) (s : List ℕ) (i : ℕ) (rs : List Range) (e : ℕ) → from q single s i ≡ shut rs e → literal_from (length rs) s i ≡ map low_of rs
unfolding literal_from
literal-chars q s i [] e h = refl
literal-chars q s i (r ∷ rs) e h =
    let t = taken q i (drop i s) r rs e h in
    let k = t.0 in
    let behind : from q single s (i + suc k) ≡ shut rs e =
    sym (passed q single s i k) ∙ ap (λ (l : List ℕ). body q single k (suc i) l) (sym (drop-drop 1 i s)) ∙ t.3
    in
    ap (λ (n : ℕ). (char (drop i s)).byte ∷ literal_from (length rs) s (i + n)) t.1
    ∙ ap (λ (b : ℕ). b ∷ literal_from (length rs) s (i + suc k)) t.2
    ∙ ap (λ (l : List ℕ). r.lo ∷ l) (literal-chars q s (i + suc k) rs e behind)

-- ── what a token holds ──
abbrev LeafHeld : Mode → List ℕ → Leaf → ℕ → ℕ → Type 0
LeafHeld m s any i n = Unit {0}
LeafHeld m s (literal l) i n = literal_from (length l) s (suc i) ≡ l
LeafHeld m s (class l) i n = class_at m s i ≡ (let c : Class = record { marks = l; next = n } in c)

abbrev SymbolHeld : List ℕ → Symbol → ℕ → ℕ → Type 0
SymbolHeld s (name w) i n = (take (length w) (drop i s) ≡ w) × (n ≡ i + length w)
SymbolHeld s (lake w) i n = (take (length w) (drop (suc i) s) ≡ w) × (n ≡ i + length w + 2)

abbrev TokHeld : Mode → List ℕ → Tok → ℕ → ℕ → Type 0
TokHeld m s (symbol x) i n = SymbolHeld s x i n
TokHeld m s (leaf x) i n = LeafHeld m s x i n
TokHeld m s (pre x) i n = Unit {0}
TokHeld m s (suf x) i n = Unit {0}
TokHeld m s arrow i n = Unit {0}
TokHeld m s slash i n = Unit {0}
TokHeld m s opens i n = Unit {0}
TokHeld m s closes i n = Unit {0}
TokHeld m s bad i n = Unit {0}

abbrev Held : Mode → List ℕ → Option Tok → ℕ → ℕ → Type 0
Held m s none i n = Unit {0}
Held m s (some t) i n = TokHeld m s t i n

span-take : (l : List ℕ) → take (length (name_span l)) l ≡ name_span l
unfolding name_span
span-take [] = refl
span-take (b ∷ l) = go (name_byte b) (span-take l)
  where
    Spanned : List ℕ → Type 0
    Spanned w = take (length w) (b ∷ l) ≡ w

    go : (x : Bool) → take (length (name_span l)) l ≡ name_span l → Spanned (elim x [ true ↦ b ∷ name_span l | false ↦ [] ])
    go true h = ap (λ (w : List ℕ). b ∷ w) h
    go false h = refl

next-drop : (s : List ℕ) (i : ℕ) → drop (suc i) s ≡ drop 1 (drop i s)
next-drop s i = let e : suc i ≡ i + 1 = omega arith in ap (λ (j : ℕ). drop j s) e ∙ sym (drop-drop 1 i s)

module _ (m : Mode) (s : List ℕ) where
  abbrev Holds : Token → Type 0
  Holds t = Held m s t.is t.start t.next

  literal-held : (q i : ℕ) (o : Body) → from q single s (suc i) ≡ o → Holds (literal_by i o)
  unfolding literal_by
  literal-held q i broken h = tt
  literal-held q i (shut [] e) h = tt
  literal-held q i (shut (r ∷ rs) e) h =
      ap (λ (n : ℕ). literal_from n s (suc i)) (length-map (r ∷ rs) low_of) ∙ literal-chars q s (suc i) (r ∷ rs) e h

  marked-held : (x : Bool) (l : List Bool) (i e : ℕ) → class_at m s i ≡ class_is (class_token x l i e) → Holds (class_token x l i e)
  marked-held true l i e h = h
  marked-held false l i e h = tt

  class-held : (c : Bool) (i : ℕ) (o : Body) → class_at m s i ≡ class_is (class_by c i o) → Holds (class_by c i o)
  unfolding class_by
  class-held c i broken h = tt
  class-held c i (shut [] e) h = tt
  class-held c i (shut (r ∷ rs) e) h = marked-held (some_true (class_marks c (r ∷ rs))) (class_marks c (r ∷ rs)) i e h

  bracket-held : (k : Mode) (i : ℕ) (l : List ℕ) → class_at m s i ≡ class_is (bracket k i l) → Holds (bracket k i l)
  unfolding bracket
  bracket-held Plain i [] h = tt
  bracket-held Lake i [] h = tt
  bracket-held Plain i (b ∷ l) h = class-held false i (body 93 listed 0 (suc i) (b ∷ l)) h
  bracket-held Lake i (b ∷ l) h =
      by-test (λ t. class_at m s i ≡ class_is t → Holds t) (eqb b 94) _ _
      (λ _. class-held true i (body 93 listed 0 (suc (suc i)) l))
      (class-held false i (body 93 listed 0 (suc i) (b ∷ l))) h

  lake-held : (i : ℕ) (w l : List ℕ) → take (length w) (drop (suc i) s) ≡ w → Holds (lake_by i w l)
  lake-held i w [] h = tt
  lake-held i w (b ∷ l) h = by_cond Holds (eqb b 62) _ _ (h, refl) tt

  less-held : (k : Mode) (i : ℕ) (l : List ℕ) → drop (suc i) s ≡ l → Holds (angle k i l)
  unfolding angle
  less-held Plain i [] h = tt
  less-held Lake i [] h = tt
  less-held Plain i (b ∷ l) h = by_cond Holds (eqb b 45) _ _ tt tt
  less-held Lake i (b ∷ l) h =
      by-test Holds (eqb b 45) _ _ (λ _. tt) (
      by-test Holds (eqb (kind_at b) 2) _ _ (λ _. lake-held i (name_span (b ∷ l)) (drop (length (name_span (b ∷ l))) (b ∷ l))
      (ap (λ (x : List ℕ). take (length (name_span (b ∷ l))) x) h ∙ span-take (b ∷ l))) tt)

  class-here : (i : ℕ) (l : List ℕ) → drop (suc i) s ≡ l → class_at m s i ≡ class_is (bracket m i l)
  unfolding class_at
  class-here i l g = ap (λ (x : List ℕ). class_is (bracket m i x)) g

  kind-held : (k b i : ℕ) (l : List ℕ) → drop i s ≡ b ∷ l → drop (suc i) s ≡ l → Holds (by_kind k m b i l)
  unfolding by_kind
  kind-held k b i l h g =
      by-test Holds (eqb k 2) _ _ (λ _. (ap (λ (x : List ℕ). take (length (name_span (b ∷ l))) x) h ∙ span-take (b ∷ l), refl)) (
      by-test Holds (eqb k 5) _ _ (λ _. tt) (
      by-test Holds (eqb k 6) _ _ (λ _. tt) (
      by-test Holds (eqb k 7) _ _ (λ _. tt) (
      by-test Holds (eqb k 8) _ _ (λ _. tt) (
      by-test Holds (eqb k 9) _ _ (λ _. tt) (
      by-test Holds (eqb k 10) _ _ (λ _. tt) (
      by-test Holds (eqb k 11) _ _ (λ _. literal-held b i (body b single 0 (suc i) l) (ap (λ (x : List ℕ). body b single 0 (suc i) x) g)) (
      by-test Holds (eqb k 12) _ _ (λ _. bracket-held m i l (class-here i l g)) (
      by-test Holds (eqb k 13) _ _ (λ _. less-held m i l g) tt)))))))))

  from-held : (i : ℕ) (l : List ℕ) → drop i s ≡ l → Holds (token_from m i l)
  unfolding token_from
  from-held i [] h = tt
  from-held i (b ∷ l) h = kind-held (kind_at b) b i l h (next-drop s i ∙ ap (λ (x : List ℕ). drop 1 x) h)

  held : (at : ℕ) → Holds (token_at m s at)
  unfolding token_at
  held at = let i = skip false at (drop at s) in from-held i (drop i s) refl

-- ── for callers: the token at a place ──
module _ (m : Mode) (s : List ℕ) (at : ℕ) where
  known : {o : Option Tok} → (token_at m s at).is ≡ o → Held m s o (token_at m s at).start (token_at m s at).next
  known e = subst (λ (o : Option Tok). Held m s o (token_at m s at).start (token_at m s at).next) e (held m s at)

  pub name-again : (w : List ℕ) → (token_at m s at).is ≡ some (symbol (name w))
      → (take (length w) (drop (token_at m s at).start s) ≡ w) × ((token_at m s at).next ≡ (token_at m s at).start + length w)
  name-again w e = known e

  pub lake-again : (w : List ℕ) → (token_at m s at).is ≡ some (symbol (lake w))
      → (take (length w) (drop (suc (token_at m s at).start) s) ≡ w) × ((token_at m s at).next ≡ (token_at m s at).start + length w + 2)
  lake-again w e = known e

  -- what `char_at` gives from behind the quote on, as often as `size` says
  pub literal-again : (l : List ℕ) → (token_at m s at).is ≡ some (leaf (literal l)) → literal_from (length l) s (suc (token_at m s at).start) ≡ l
  literal-again l e = known e

  -- what `class_end` gives at the token's place
  pub class-again : (l : List Bool) → (token_at m s at).is ≡ some (leaf (class l))
      → class_at m s (token_at m s at).start ≡ (let c : Class = record { marks = l; next = (token_at m s at).next } in c)
  class-again l e = known e
