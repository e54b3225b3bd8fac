-- The token at a place is exactly the one that `Spelling` says, and the tokens of a text are exactly those: both ways. Assumes nothing.
use Prim.Native.Nat.{ℕ, zero, suc, ◌+◌, ◌-◌, ◌≤◌, ◌<◌}
use Rattle.std.specs.Prelude.{◌≡◌, Bool, true, cond, ◌⊎◌, ◌↔◌, eqb, drop}
use Rattle.std.proofs.Math.Path.{refl, ap, subst}
use Rattle.std.proofs.Common.{sym, ◌∙◌, inl, inr, arith, drop-drop, eqb-true, eq-eqb, ne_eqb}
use Rattle.std.proofs.Math.Bool.{false}
use Rattle.std.proofs.Math.Option.{Option, none, some}
use mathlib.Core.List.{List, [], ◌∷◌, map}
use Rattle.std.proofs.Math.ListN.{length, length-drop}
use Rattle.std.proofs.Math.Seq.{drop-length}
use Rattle.std.proofs.lemmas.Bool.{eqb-false}
use Rattle.read_tokens.specs.Kinds.{kind_at, one_of, ranges}
use Rattle.read_tokens.specs.declared.Mode.{Mode}
use Rattle.read_tokens.specs.declared.Mode.TheVariants.{Lake, Plain}
use Rattle.read_tokens.specs.Token.{Tok, Token, Lexeme, name, lake, literal, class, symbol, leaf, pre, suf, arrow, slash, opens, closes, bad}
use Rattle.read_tokens.specs.Chars.{Range, range, Body, shut, broken, body, char, four, single, listed}
use Rattle.read_tokens.specs.Tokens.{tok, bad_at, skip, name_span, lake_by, angle, low_of, literal_by, some_true, class_marks, class_token, class_by, bracket, pre_of, suf_of, by_kind, token_from, token_at, lexeme, lexemes}
use Rattle.read_spelling.specs.Spelling.{Letter, NameByte, OneOf, quotes, Run, Skips, Spells, ItemSpelt, UpTo, Marks, Caret, Sign, is-opens, is-closes, is-slash, is-amp, is-bang, is-query, is-asterisk, is-cross, is_any, Reads, a-sign, an-arrow, a-name, a-lake, a-literal, a-class, a-complement, SpelledAt, text-end, good, no-token, Spelled, ended, follows}
use Rattle.read_tokens.specs.laws.Bytes.{Bytes, bytes_drop}
use Rattle.read_tokens.specs.laws.Tests.{by-test}
use Rattle.read_tokens.specs.laws.Forward.{span-letter, forward, lexemes_at, lex-end, lex-more}
use Rattle.read_spelling.proofs.laws.Spells.{kind-letter, letter-kind, kind-quote, quote-kind, kind-prefix, kind-suffix, kind-opens, kind-closes, kind-slash, kind-dot, kind-bracket, kind-less, single-sound, single-complete, listed-sound, listed-complete}
use Rattle.read_spelling.proofs.laws.Bodies.{never, Cut, cut-byte, cut-then, run-cut, run_length, blanks-cut, literal-cut, class-cut, Closed, body-sound, body-complete, span_run, run-span, Inside, marks-sound, marks-complete, skip-sound, skip-complete}

-- ── what the function gives is spelled, or bad ──
data Found (m : Mode) (i : ℕ) (l : List ℕ) : Token → Type 0 where
  reads : {t : Tok} {n : ℕ} (r : List ℕ) → Reads m t l r → n + length r ≡ i + length l → Found m i l (tok t i n)
  poor : Found m i l (bad_at i)

abbrev both : ℕ → Range
both b = range b b

unboth : (bs : List ℕ) → map low_of (map both bs) ≡ bs
unboth [] = refl
unboth (b ∷ bs) = ap (λ (l : List ℕ). b ∷ l) (unboth bs)

abbrev as_is : Range → Range
as_is x = x

map-as-is : (xs : List Range) → map as_is xs ≡ xs
map-as-is [] = refl
map-as-is (x ∷ xs) = ap (λ (l : List Range). x ∷ l) (map-as-is xs)

no-cons : {A : Type 0} (r : Range) (rs : List Range) → r ∷ rs ≡ [] → A
no-cons r rs e = absurd (omega (arith, ap length e))

single-found : (l : List ℕ) → Bytes l → 0 < (single l).width → (b : ℕ) × ((single l).span ≡ both b) × Spells b l (drop (single l).width l)
unfolding single
single-found l h k = ((single l).span.lo, refl, single-sound l h k)

literal-found : (m : Mode) (q i : ℕ) (l : List ℕ) → OneOf quotes q → Bytes l → Found m i (q ∷ l) (literal_by i (body q single 0 (suc i) l))
unfolding literal_by
literal-found m q i l h k = pick (body q single 0 (suc i) l) (body-sound q Spells single both single-found 0 (suc i) (suc i + length l) l k refl)
  where
    named : (r : Range) (rs : List Range) (e : ℕ) (bs p : List ℕ) → UpTo q Spells bs l p → r ∷ rs ≡ map both bs → e + length p ≡ suc i + length l
        → Found m i (q ∷ l) (tok (leaf (literal (map low_of (r ∷ rs)))) i e)
    named r rs e [] p u g n = no-cons r rs g
    named r rs e (b ∷ bs) p u g n =
        subst (λ (w : List ℕ). Found m i (q ∷ l) (tok (leaf (literal w)) i e)) (sym (ap (map low_of) g ∙ unboth (b ∷ bs))) (reads p (a-literal h u) (omega arith))

    pick : (o : Body) → Closed q Spells single both l (suc i + length l) o → Found m i (q ∷ l) (literal_by i o)
    pick broken c = poor
    pick (shut [] e) c = poor
    pick (shut (r ∷ rs) e) c = named r rs e c.0 c.1 c.2 c.3 c.4

-- a class, as listed or turned; `from` tells how its items make it a token
module _ (m : Mode) (c : Bool) (i at : ℕ) (l t : List ℕ) (far : at + length l ≡ i + length t)
    (from : (x : Range) (xs : List Range) (k : List Bool) (r : List ℕ) → UpTo 93 ItemSpelt (x ∷ xs) l r → Marks (Inside c (x ∷ xs)) k → Reads m (leaf (class k)) t r) where
  marked-found : (x : Range) (xs : List Range) (r : List ℕ) (e : ℕ) → UpTo 93 ItemSpelt (x ∷ xs) l r → e + length r ≡ at + length l
      → Found m i t (class_token (some_true (class_marks c (x ∷ xs))) (class_marks c (x ∷ xs)) i e)
  marked-found x xs r e u n = pick (some_true (class_marks c (x ∷ xs))) refl
    where
      pick : (y : Bool) → some_true (class_marks c (x ∷ xs)) ≡ y → Found m i t (class_token y (class_marks c (x ∷ xs)) i e)
      pick true f = reads {n = e} r (from x xs (class_marks c (x ∷ xs)) r u (marks-sound c (x ∷ xs) f)) (omega arith)
      pick false f = poor

  class-found : Bytes l → Found m i t (class_by c i (body 93 listed 0 at l))
  unfolding class_by
  class-found h = pick (body 93 listed 0 at l) (body-sound 93 ItemSpelt listed as_is (λ k b w. ((listed k).span, refl, listed-sound k b w)) 0 at (at + length l) l h refl)
    where
      settled : (x : Range) (xs : List Range) (e : ℕ) (ys : List Range) (p : List ℕ) → UpTo 93 ItemSpelt ys l p → x ∷ xs ≡ map as_is ys → e + length p ≡ at + length l
          → Found m i t (class_token (some_true (class_marks c (x ∷ xs))) (class_marks c (x ∷ xs)) i e)
      settled x xs e ys p u g n = marked-found x xs p e (subst (λ (zs : List Range). UpTo 93 ItemSpelt zs l p) (sym (g ∙ map-as-is ys)) u) n

      pick : (o : Body) → Closed 93 ItemSpelt listed as_is l (at + length l) o → Found m i t (class_by c i o)
      pick broken d = poor
      pick (shut [] e) d = poor
      pick (shut (x ∷ xs) e) d = settled x xs e d.0 d.1 d.2 d.3 d.4

bracket-found : (m : Mode) (i : ℕ) (l : List ℕ) → Bytes l → Found m i (91 ∷ l) (bracket m i l)
unfolding bracket
bracket-found Plain i [] h = poor
bracket-found Lake i [] h = poor
bracket-found Plain i (b ∷ l) h = class-found Plain false i (suc i) (b ∷ l) (91 ∷ b ∷ l) (omega arith) (λ x xs k r u n. a-class (λ f. f) u n) h
bracket-found Lake i (b ∷ l) h = pick (eqb b 94) refl
  where
    pick : (x : Bool) → eqb b 94 ≡ x
        → Found Lake i (91 ∷ b ∷ l) (elim x [ true ↦ class_by true i (body 93 listed 0 (suc (suc i)) l) | false ↦ class_by false i (body 93 listed 0 (suc i) (b ∷ l)) ])
    pick true e =
        class-found Lake true i (suc (suc i)) l (91 ∷ b ∷ l) (omega arith)
        (λ x xs k r u n. subst (λ (j : ℕ). Reads Lake (leaf (class k)) (91 ∷ j ∷ l) r) (sym (eqb-true b 94 e)) (a-complement u n)) h.1
    pick false e = class-found Lake false i (suc i) (b ∷ l) (91 ∷ b ∷ l) (omega arith) (λ x xs k r u n. a-class (eqb-false b 94 e) u n) h

lake-found : (i b : ℕ) (w l k : List ℕ) → Letter b → Run NameByte w l k → Found Lake i (60 ∷ b ∷ l) (lake_by i (b ∷ w) k)
lake-found i b w l [] h u = poor
lake-found i b w l (c ∷ r) h u = pick (eqb c 62) refl
  where
    pick : (x : Bool) → eqb c 62 ≡ x → Found Lake i (60 ∷ b ∷ l) (cond x (tok (symbol (lake (b ∷ w))) i (i + length (b ∷ w) + 2)) (bad_at i))
    pick true e = reads {n = i + length (b ∷ w) + 2} r (a-lake h (subst (λ (j : ℕ). Run NameByte w l (j ∷ r)) (eqb-true c 62 e) u)) (omega (arith, run_length u))
    pick false e = poor

less-found : (m : Mode) (i : ℕ) (l : List ℕ) → Bytes l → Found m i (60 ∷ l) (angle m i l)
unfolding angle
less-found Plain i [] h = poor
less-found Lake i [] h = poor
less-found Plain i (b ∷ l) h = pick (eqb b 45) refl
  where
    pick : (x : Bool) → eqb b 45 ≡ x → Found Plain i (60 ∷ b ∷ l) (cond x (tok arrow i (i + 2)) (bad_at i))
    pick true e = subst (λ (j : ℕ). Found Plain i (60 ∷ j ∷ l) (tok arrow i (i + 2))) (sym (eqb-true b 45 e)) (reads l an-arrow (omega arith))
    pick false e = poor
less-found Lake i (b ∷ l) h =
    by-test (Found Lake i (60 ∷ b ∷ l)) (eqb b 45) _ _
    (λ e. subst (λ (j : ℕ). Found Lake i (60 ∷ j ∷ l) (tok arrow i (i + 2))) (sym (eqb-true b 45 e)) (reads l an-arrow (omega arith)))
    (by-test (Found Lake i (60 ∷ b ∷ l)) (eqb (kind_at b) 2) _ _ (λ e. called (eqb-true (kind_at b) 2 e)) poor)
  where
    called : kind_at b ≡ 2 → Found Lake i (60 ∷ b ∷ l) (lake_by i (name_span (b ∷ l)) (drop (length (name_span (b ∷ l))) (b ∷ l)))
    called e =
        subst (λ (w : List ℕ). Found Lake i (60 ∷ b ∷ l) (lake_by i w (drop (length w) (b ∷ l)))) (sym (span-letter b l e))
        (lake-found i b (name_span l) l (drop (length (name_span l)) l) (kind-letter b h.0 e) (span_run l h.1))

name-found : (m : Mode) (b i : ℕ) (l : List ℕ) → Bytes (b ∷ l) → kind_at b ≡ 2 → Found m i (b ∷ l) (tok (symbol (name (name_span (b ∷ l)))) i (i + length (name_span (b ∷ l))))
name-found m b i l h e =
    let u = span_run l h.1 in
    subst (λ (w : List ℕ). Found m i (b ∷ l) (tok (symbol (name w)) i (i + length w))) (sym (span-letter b l e))
    (reads (drop (length (name_span l)) l) (a-name (kind-letter b h.0 e) u) (omega (arith, run_length u)))

module _ (m : Mode) (i : ℕ) (l : List ℕ) where
  sign-found : {c : ℕ} {t : Tok} (b : ℕ) → b ≡ c → Sign c t → Found m i (b ∷ l) (tok t i (suc i))
  sign-found {c} {t} b e s = subst (λ (j : ℕ). Found m i (j ∷ l) (tok t i (suc i))) (sym e) (reads l (a-sign s) (omega arith))

  pre-found : (b : ℕ) → (b ≡ 38) ⊎ (b ≡ 33) ⊎ ⊥ → Found m i (b ∷ l) (tok (pre (pre_of b)) i (suc i))
  pre-found b (inl e) = subst (λ (j : ℕ). Found m i (j ∷ l) (tok (pre (pre_of j)) i (suc i))) (sym e) (reads l (a-sign is-amp) (omega arith))
  pre-found b (inr (inl e)) = subst (λ (j : ℕ). Found m i (j ∷ l) (tok (pre (pre_of j)) i (suc i))) (sym e) (reads l (a-sign is-bang) (omega arith))
  pre-found b (inr (inr e)) = absurd e

  suf-found : (b : ℕ) → (b ≡ 63) ⊎ (b ≡ 42) ⊎ (b ≡ 43) ⊎ ⊥ → Found m i (b ∷ l) (tok (suf (suf_of b)) i (suc i))
  suf-found b (inl e) = subst (λ (j : ℕ). Found m i (j ∷ l) (tok (suf (suf_of j)) i (suc i))) (sym e) (reads l (a-sign is-query) (omega arith))
  suf-found b (inr (inl e)) = subst (λ (j : ℕ). Found m i (j ∷ l) (tok (suf (suf_of j)) i (suc i))) (sym e) (reads l (a-sign is-asterisk) (omega arith))
  suf-found b (inr (inr (inl e))) = subst (λ (j : ℕ). Found m i (j ∷ l) (tok (suf (suf_of j)) i (suc i))) (sym e) (reads l (a-sign is-cross) (omega arith))
  suf-found b (inr (inr (inr e))) = absurd e

kind-found : (k : ℕ) (m : Mode) (b i : ℕ) (l : List ℕ) → Bytes (b ∷ l) → kind_at b ≡ k → Found m i (b ∷ l) (by_kind k m b i l)
unfolding by_kind
kind-found k m b i l h e =
    let P : Token → Type 0 = Found m i (b ∷ l) in
    let is : (n : ℕ) → eqb k n ≡ true → kind_at b ≡ n = λ n x. e ∙ eqb-true k n x in
    by-test P (eqb k 2) _ _ (λ x. name-found m b i l h (is 2 x)) (
    by-test P (eqb k 5) _ _ (λ x. sign-found m i l b (kind-opens b h.0 (is 5 x)) is-opens) (
    by-test P (eqb k 6) _ _ (λ x. sign-found m i l b (kind-closes b h.0 (is 6 x)) is-closes) (
    by-test P (eqb k 7) _ _ (λ x. sign-found m i l b (kind-slash b h.0 (is 7 x)) is-slash) (
    by-test P (eqb k 8) _ _ (λ x. pre-found m i l b (kind-prefix b h.0 (is 8 x))) (
    by-test P (eqb k 9) _ _ (λ x. suf-found m i l b (kind-suffix b h.0 (is 9 x))) (
    by-test P (eqb k 10) _ _ (λ x. sign-found m i l b (kind-dot b h.0 (is 10 x)) is_any) (
    by-test P (eqb k 11) _ _ (λ x. literal-found m b i l (kind-quote b h.0 (is 11 x)) h.1) (
    by-test P (eqb k 12) _ _ (λ x. subst (λ (j : ℕ). Found m i (j ∷ l) (bracket m i l)) (sym (kind-bracket b h.0 (is 12 x))) (bracket-found m i l h.1)) (
    by-test P (eqb k 13) _ _ (λ x. subst (λ (j : ℕ). Found m i (j ∷ l) (angle m i l)) (sym (kind-less b h.0 (is 13 x))) (less-found m i l h.1)) poor)))))))))

found : (m : Mode) (b i : ℕ) (l : List ℕ) → Bytes (b ∷ l) → Found m i (b ∷ l) (token_from m i (b ∷ l))
unfolding token_from
found m b i l h = kind-found (kind_at b) m b i l h refl

-- ── what is spelled the function gives ──
abbrev Gives : Mode → ℕ → List ℕ → Tok → List ℕ → Type 0
Gives m i l t r = (n : ℕ) × (token_from m i l ≡ tok t i n) × (n + length r ≡ i + length l)

sign-gives : (m : Mode) (i b : ℕ) (t : Tok) (r : List ℕ) → Sign b t → token_from m i (b ∷ r) ≡ tok t i (suc i)
unfolding token_from by_kind kind_at one_of ranges
sign-gives m i b t r is-opens = refl
sign-gives m i b t r is-closes = refl
sign-gives m i b t r is-slash = refl
sign-gives m i b t r is-amp = refl
sign-gives m i b t r is-bang = refl
sign-gives m i b t r is-query = refl
sign-gives m i b t r is-asterisk = refl
sign-gives m i b t r is-cross = refl
sign-gives m i b t r is_any = refl

-- by the first byte
by-letter : (m : Mode) (i b : ℕ) (l : List ℕ) → Letter b → token_from m i (b ∷ l) ≡ tok (symbol (name (name_span (b ∷ l)))) i (i + length (name_span (b ∷ l)))
unfolding token_from by_kind
by-letter m i b l h = ap (λ (k : ℕ). by_kind k m b i l) (letter-kind b h)

by-quote : (m : Mode) (i q : ℕ) (l : List ℕ) → OneOf quotes q → token_from m i (q ∷ l) ≡ literal_by i (body q single 0 (suc i) l)
unfolding token_from by_kind
by-quote m i q l h = ap (λ (k : ℕ). by_kind k m q i l) (quote-kind q h)

by_less : (m : Mode) (i : ℕ) (l : List ℕ) → token_from m i (60 ∷ l) ≡ angle m i l
unfolding token_from by_kind kind_at one_of ranges
by_less m i l = refl

by-bracket : (m : Mode) (i : ℕ) (l : List ℕ) → token_from m i (91 ∷ l) ≡ bracket m i l
unfolding token_from by_kind kind_at one_of ranges
by-bracket m i l = refl

span-is : {w l r : List ℕ} (b : ℕ) → Letter b → Run NameByte w l r → Bytes l → name_span (b ∷ l) ≡ b ∷ w
span-is {l = l} b h u k = span-letter b l (letter-kind b h) ∙ ap (λ (w : List ℕ). b ∷ w) (run-span u k)

arrow-gives : (m : Mode) (i : ℕ) (r : List ℕ) → angle m i (45 ∷ r) ≡ tok arrow i (i + 2)
unfolding angle
arrow-gives Lake i r = refl
arrow-gives Plain i r = refl

choose : (x y : Bool) (a b c : Token) → x ≡ false → y ≡ true → elim x as (λ _. Token) [ true ↦ a | false ↦ elim y as (λ _. Token) [ true ↦ b | false ↦ c ] ] ≡ b
choose true y a b c e f = never (sym e)
choose false true a b c e f = refl
choose false false a b c e f = never f

no-dash : (b : ℕ) → Letter b → ¬ (b ≡ 45)
unfolding kind_at one_of ranges
no-dash b h e = let z : ◌≡◌ {A = ℕ} 2 0 = sym (letter-kind b h) ∙ ap kind_at e in absurd (omega arith)

drop-cut : {w l r : List ℕ} → Run NameByte w l r → drop (length w) l ≡ r
drop-cut {w} {l} {r} u = let c = run-cut u in let e : length w ≡ c.0 = omega (arith, c.2, run_length u) in ap (λ (n : ℕ). drop n l) e ∙ c.1

lake-gives : {w l r : List ℕ} (i b : ℕ) → Letter b → Run NameByte w l (62 ∷ r) → Bytes l → angle Lake i (b ∷ l) ≡ tok (symbol (lake (b ∷ w))) i (i + length (b ∷ w) + 2)
unfolding angle
lake-gives {w} {l} {r} i b h u k =
    choose (eqb b 45) (eqb (kind_at b) 2) _ _ _ (ne_eqb b 45 (no-dash b h)) (eq-eqb (kind_at b) 2 (letter-kind b h))
    ∙ ap (λ (v : List ℕ). lake_by i v (drop (length v) (b ∷ l))) (span-is b h u k)
    ∙ ap (lake_by i (b ∷ w)) (drop-cut u)

bracket-plain : (m : Mode) (i : ℕ) (l : List ℕ) → ¬ Caret m l → bracket m i l ≡ class_by false i (body 93 listed 0 (suc i) l)
unfolding bracket class_by body
bracket-plain Plain i [] n = refl
bracket-plain Lake i [] n = refl
bracket-plain Plain i (b ∷ l) n = refl
bracket-plain Lake i (b ∷ l) n = pick (eqb b 94) (ne_eqb b 94 n)
  where
    pick : (x : Bool) → x ≡ false
        → elim x as (λ _. Token) [ true ↦ class_by true i (body 93 listed 0 (suc (suc i)) l) | false ↦ class_by false i (body 93 listed 0 (suc i) (b ∷ l)) ] ≡ class_by false i (body 93 listed 0 (suc i) (b ∷ l))
    pick true e = never (sym e)
    pick false e = refl

empty-listed : (listed []).width ≡ 0
unfolding listed char four
empty-listed = refl

empty-single : (single []).width ≡ 0
unfolding single char four
empty-single = refl

class-gives : (c : Bool) (i at : ℕ) (x : Range) (xs : List Range) (k : List Bool) (l r : List ℕ) → UpTo 93 ItemSpelt (x ∷ xs) l r → Marks (Inside c (x ∷ xs)) k → Bytes l
    → (n : ℕ) × (class_by c i (body 93 listed 0 at l) ≡ tok (leaf (class k)) i n) × (n + length r ≡ at + length l)
unfolding class_by
class-gives c i at x xs k l r u n h =
    let g = body-complete 93 ItemSpelt listed as_is empty-listed (λ y k p j b. listed-complete j b) u h at in
    let t = marks-complete c (x ∷ xs) k n in (
      g.0,
      ap (class_by c i) (g.1 ∙ ap (λ (ys : List Range). shut ys g.0) (map-as-is (x ∷ xs)))
          ∙ ap (λ (y : Bool). class_token y (class_marks c (x ∷ xs)) i g.0) t.0
          ∙ ap (λ (ms : List Bool). tok (leaf (class ms)) i g.0) t.1,
      g.2,
    )

literal-gives : (q i b : ℕ) (bs l r : List ℕ) → UpTo q Spells (b ∷ bs) l r → Bytes l
    → (n : ℕ) × (literal_by i (body q single 0 (suc i) l) ≡ tok (leaf (literal (b ∷ bs))) i n) × (n + length r ≡ suc i + length l)
unfolding literal_by
literal-gives q i b bs l r u h =
    let g = body-complete q Spells single both empty-single (λ y k p j b. single-complete j b) u h (suc i) in
    (g.0, ap (literal_by i) g.1 ∙ ap (λ (w : List ℕ). tok (leaf (literal w)) i g.0) (unboth (b ∷ bs)), g.2)

turned-class : (i : ℕ) (l : List ℕ) → bracket Lake i (94 ∷ l) ≡ class_by true i (body 93 listed 0 (suc (suc i)) l)
unfolding bracket
turned-class i l = refl

gives : {m : Mode} {t : Tok} {l r : List ℕ} → Reads m t l r → Bytes l → (i : ℕ) → Gives m i l t r
gives (a-sign {m = m} {b = b} {t = t} {r = r} s) h i = (suc i, sign-gives m i b t r s, omega arith)
gives (an-arrow {m = m} {r = r}) h i = (i + 2, by_less m i (45 ∷ r) ∙ arrow-gives m i r, omega arith)
gives (a-name {m = m} {b = b} {w = w} {l = l} f u) h i =
    (i + length (b ∷ w), by-letter m i b l f ∙ ap (λ (v : List ℕ). tok (symbol (name v)) i (i + length v)) (span-is b f u h.1), omega (arith, run_length u))
gives (a-lake {b = b} {w = w} {l = l} f u) h i = (i + length (b ∷ w) + 2, by_less Lake i (b ∷ l) ∙ lake-gives i b f u h.1.1, omega (arith, run_length u))
gives (a-literal {m = m} {q = q} {b = b} {bs = bs} {l = l} {r = r} f u) h i =
    let g = literal-gives q i b bs l r u h.1 in (g.0, by-quote m i q l f ∙ g.1, omega (arith, g.2))
gives (a-class {m = m} {x = x} {xs = xs} {k = k} {l = l} {r = r} n u t) h i =
    let g = class-gives false i (suc i) x xs k l r u t h.1 in (g.0, by-bracket m i l ∙ bracket-plain m i l n ∙ g.1, omega (arith, g.2))
gives (a-complement {x = x} {xs = xs} {k = k} {l = l} {r = r} u t) h i =
    let g = class-gives true i (suc (suc i)) x xs k l r u t h.1.1 in (g.0, by-bracket Lake i (94 ∷ l) ∙ turned-class i l ∙ g.1, omega (arith, g.2))

-- ── a place of the text ──
reads-cut : {m : Mode} {t : Tok} {l r : List ℕ} → Reads m t l r → Cut l r
reads-cut (a-sign s) = (1, refl, omega arith)
reads-cut an-arrow = (2, refl, omega arith)
reads-cut (a-name {b = b} f u) = cut-byte b (run-cut u)
reads-cut (a-lake {b = b} f u) = cut-byte 60 (cut-byte b (cut-then (run-cut u) (1, refl, omega arith)))
reads-cut (a-literal {q = q} f u) = cut-byte q (literal-cut q u)
reads-cut (a-class n u t) = cut-byte 91 (class-cut u)
reads-cut (a-complement u t) = cut-byte 91 (cut-byte 94 (class-cut u))

-- a front part of the text from i on leaves the text from its place on
place-of : {l r : List ℕ} (s : List ℕ) (i n : ℕ) → Cut l r → drop i s ≡ l → i ≤ length s → n + length r ≡ i + length l → (n ≤ length s) × (drop n s ≡ r)
place-of {l} {r} s i n c e h k =
    let f : length l ≡ length s - i = sym (ap length e) ∙ length-drop i s in
    let g : n ≡ i + c.0 = omega (arith, c.2) in
    (omega (arith, c.2), ap (λ (j : ℕ). drop j s) g ∙ sym (drop-drop c.0 i s) ∙ ap (drop c.0) e ∙ c.1)

abbrev Sound : Tok → Type 0
Sound (symbol x) = Unit {0}
Sound (leaf x) = Unit {0}
Sound (pre x) = Unit {0}
Sound (suf x) = Unit {0}
Sound arrow = Unit {0}
Sound slash = Unit {0}
Sound opens = Unit {0}
Sound closes = Unit {0}
Sound bad = ⊥

sign-is-sound : {b : ℕ} {t : Tok} → Sign b t → Sound t
sign-is-sound is-opens = tt
sign-is-sound is-closes = tt
sign-is-sound is-slash = tt
sign-is-sound is-amp = tt
sign-is-sound is-bang = tt
sign-is-sound is-query = tt
sign-is-sound is-asterisk = tt
sign-is-sound is-cross = tt
sign-is-sound is_any = tt

reads-sound : {m : Mode} {t : Tok} {l r : List ℕ} → Reads m t l r → Sound t
reads-sound (a-sign s) = sign-is-sound s
reads-sound an-arrow = tt
reads-sound (a-name f u) = tt
reads-sound (a-lake f u) = tt
reads-sound (a-literal f u) = tt
reads-sound (a-class n u t) = tt
reads-sound (a-complement u t) = tt

abbrev SoundIf : Option Tok → Type 0
SoundIf none = Unit {0}
SoundIf (some t) = Sound t

-- where the function gives a bad token, none is spelled
bad-reads-none : (m : Mode) (i : ℕ) (l : List ℕ) → Bytes l → token_from m i l ≡ bad_at i → (t : Tok) (r : List ℕ) → ¬ Reads m t l r
bad-reads-none m i l h e t r u = subst SoundIf (ap (λ (x : Token). x.is) (sym (gives u h i).1 ∙ e)) (reads-sound u)

module _ (m : Mode) (s : List ℕ) (at : ℕ) (h : Bytes s) (k : at ≤ length s) where
  placed : (i : ℕ) (l : List ℕ) (t : Token) → Found m i l t → token_from m i l ≡ t → drop i s ≡ l → i < length s → Skips (drop at s) (drop i s) → SpelledAt m s at t
  placed i l _ (reads {t = t} {n = n} r u e) f d j g =
      let p = place-of s i n (reads-cut u) d (omega arith) e in
      good {i = i} {n = n} (omega arith) p.0 g (subst (λ (x : List ℕ). Reads m t x (drop n s)) (sym d) (subst (Reads m t l) (sym p.1) u))
  placed i l t poor f d j g =
      no-token j g (λ x r u. bad-reads-none m i l (subst Bytes d (bytes_drop i s h)) f x r (subst (λ (y : List ℕ). Reads m x y r) d u))

  from-sound : (i : ℕ) (l : List ℕ) → drop i s ≡ l → i ≤ length s → Skips (drop at s) (drop i s) → SpelledAt m s at (token_from m i l)
  unfolding token_from
  from-sound i [] d j g =
      let e : length s ≡ i = omega (arith, length-drop i s, ap length d) in
      subst (λ (n : ℕ). SpelledAt m s at (record { is = none; start = n; next = n })) e (text-end (subst (Skips (drop at s)) d g))
  from-sound i (b ∷ l) d j g =
      placed i (b ∷ l) (token_from m i (b ∷ l)) (found m b i l (subst Bytes d (bytes_drop i s h))) refl d (omega (arith, length-drop i s, ap length d)) g

  token-sound : SpelledAt m s at (token_at m s at)
  unfolding token_at
  token-sound =
      let i : ℕ = skip false at (drop at s) in
      let g = skip-sound false at (drop at s) (bytes_drop at s h) in
      let p = place-of s at i (blanks-cut g.1.0.0) refl k g.1.1 in
      from-sound i (drop i s) refl p.0 (subst (Skips (drop at s)) (sym p.1) g.1.0)

  skipped : (i : ℕ) (r : List ℕ) → i + length r ≡ length s → Skips (drop at s) r → skip false at (drop at s) ≡ i
  skipped i r e g = omega (arith, skip-complete g.0 (bytes_drop at s h) g.1 at, length-drop at s)

  at_place : (i : ℕ) → skip false at (drop at s) ≡ i → token_at m s at ≡ token_from m i (drop i s)
  unfolding token_at
  at_place i e = ap (λ (j : ℕ). token_from m j (drop j s)) e

  bad-only : (i : ℕ) (l : List ℕ) (t : Token) → Found m i l t → ((x : Tok) (r : List ℕ) → ¬ Reads m x l r) → t ≡ bad_at i
  bad-only i l t (reads r u e) n = absurd (n _ r u)
  bad-only i l t poor n = refl

  from-bad : (i : ℕ) (l : List ℕ) → 0 < length l → Bytes l → ((x : Tok) (r : List ℕ) → ¬ Reads m x l r) → token_from m i l ≡ bad_at i
  from-bad i [] j b n = absurd (omega arith)
  from-bad i (c ∷ l) j b n = bad-only i (c ∷ l) (token_from m i (c ∷ l)) (found m c i l b) n

  end_of : token_from m (length s) [] ≡ record { is = none; start = length s; next = length s }
  unfolding token_from
  end_of = refl

  token-complete : {t : Token} → SpelledAt m s at t → token_at m s at ≡ t
  token-complete (text-end g) = at_place (length s) (skipped (length s) [] (omega arith) g) ∙ ap (token_from m (length s)) (drop-length s) ∙ end_of
  token-complete (good {t = t} {i = i} {n = n} a b g u) =
      let v = gives u (bytes_drop i s h) i in
      let e : v.0 ≡ n = omega (arith, v.2, length-drop i s, length-drop n s) in
      at_place i (skipped i (drop i s) (omega (arith, length-drop i s)) g) ∙ v.1 ∙ ap (tok t i) e
  token-complete (no-token {i = i} a g n) =
      at_place i (skipped i (drop i s) (omega (arith, length-drop i s)) g) ∙ from-bad i (drop i s) (omega (arith, length-drop i s)) (bytes_drop i s h) n

  -- the token at a place is the one that is spelled there
  pub token-exact : (t : Token) → SpelledAt m s at t ↔ (token_at m s at ≡ t)
  token-exact t = (λ u. token-complete u, λ e. subst (SpelledAt m s at) e token-sound)

-- ── all tokens of a text ──
module _ (m : Mode) (s : List ℕ) (h : Bytes s) where
  turn : (at : ℕ) (t : Token) → token_at m s at ≡ t → SpelledAt m s at t → ((x : Tok) → t.is ≡ some x → Spelled m s t.next (lexemes_at m s t.next)) → (o : Option Tok) → t.is ≡ o
      → Spelled m s at (lexemes_at m s at)
  turn at t e u k none f =
      subst (Spelled m s at) (sym (lex-end m s at (ap (λ (x : Token). x.is) e ∙ f)))
      (ended (subst (λ (x : Option Tok). SpelledAt m s at (record { is = x; start = t.start; next = t.next })) f u))
  turn at t e u k (some x) f =
      subst (Spelled m s at)
      (sym (lex-more m s at x (ap (λ (y : Token). y.is) e ∙ f) ∙ ap (λ (y : Token). lexeme x y.start ∷ lexemes_at m s y.next) e))
      (follows (subst (λ (y : Option Tok). SpelledAt m s at (record { is = y; start = t.start; next = t.next })) f u) (k x f))

  all_sound : (f at : ℕ) → at ≤ length s → length s ≤ at + f → Spelled m s at (lexemes_at m s at)
  all_sound zero at a b =
      turn at (token_at m s at) refl (token-sound m s at h a) (λ x e. let w = forward m s at x e in absurd (omega (arith, w.behind, w.long, w.within))) (token_at m s at).is refl
  all_sound (suc f) at a b =
      turn at (token_at m s at) refl (token-sound m s at h a)
      (λ x e. let w = forward m s at x e in all_sound f (token_at m s at).next w.within (omega (arith, w.behind, w.long))) (token_at m s at).is refl

  all-complete : {at : ℕ} {ts : List Lexeme} → Spelled m s at ts → at ≤ length s → lexemes_at m s at ≡ ts
  all-complete (ended {at = at} u) a = lex-end m s at (ap (λ (x : Token). x.is) (token-complete m s at h a u))
  all-complete (follows {at = at} {i = i} {n = n} {t = t} {ts = ts} u v) a =
      let e = token-complete m s at h a u in
      let w = forward m s at t (ap (λ (x : Token). x.is) e) in
      let g : (token_at m s at).next ≡ n = ap (λ (x : Token). x.next) e in
      lex-more m s at t (ap (λ (x : Token). x.is) e)
      ∙ ap (λ (x : Token). lexeme t x.start ∷ lexemes_at m s x.next) e
      ∙ ap (λ (x : List Lexeme). lexeme t i ∷ x) (all-complete v (omega (arith, g, w.within)))

  -- the tokens of a text are those that are spelled, one behind the other
  pub lexemes-exact : (ts : List Lexeme) → Spelled m s 0 ts ↔ (lexemes m s ≡ ts)
  unfolding lexemes
  lexemes-exact ts = (λ u. all-complete u (omega arith), λ e. subst (Spelled m s 0) e (all_sound (length s) 0 (omega arith) (omega arith)))
