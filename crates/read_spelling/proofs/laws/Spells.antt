-- The bytes' kinds and the function of characters and of class items are what `Spelling` says, both ways. Assumes nothing.
use Rattle.std.specs.Prelude.{ℕ, zero, suc, ◌+◌, ◌-◌, ◌≤◌, ◌<◌, ◌≡◌, refl, Bool, true, false, cond, not, ◌&&◌, ◌||◌, List, [], ◌∷◌, T, eqb, leb, length, drop, get_or}
use Rattle.std.proofs.Common.{sym, ap, subst, ◌∙◌, inl, inr, arith, drop-drop, eqb-true, eq-eqb, ne_eqb, leb-true, le-leb}
use Rattle.std.proofs.lemmas.Bool.{eqb-false, not-true}
use Rattle.read_tokens.specs.Kinds.{kind_at, one_of, ranges}
use Rattle.read_tokens.specs.Bounds.{first_octal}
use Rattle.read_tokens.specs.Chars as chars
use Rattle.read_tokens.specs.Chars.{Char, Range, got, octal, octals, letters, four, char, single, dashed, started, listed, range}
use Rattle.read_tokens.specs.Tokens.{name_byte}
use Rattle.read_spelling.specs.Spelling.{OneOf, Between, HeadIs, blank_bytes, quotes, escapes, Letter, NameByte, Digit, Octal, Escape, n-lf, r-cr, t-tab, same, Spells, itself, escaped, three, two, one, ItemSpelt, alone, ranged}
use Rattle.read_tokens.specs.laws.All.{all, all-at, both_left, both_right}
use Rattle.read_tokens.specs.laws.Bytes.{Bytes, bytes_drop}

-- ── the kinds of the bytes, each by one computed test ──
abbrev pub one_test : List ℕ → ℕ → Bool
one_test [] b = false
one_test (c ∷ cs) b = eqb b c || one_test cs b

abbrev in_test : ℕ → ℕ → ℕ → Bool
in_test lo hi b = leb lo b && leb b hi

abbrev letter_test : ℕ → Bool
letter_test b = in_test 97 122 b || (in_test 65 90 b || eqb b 95)

abbrev implies : Bool → Bool → Bool
implies true b = b
implies false b = true

is : (b : Bool) → T b → b ≡ true
is true t = refl
is false t = absurd t

implied : (a b : Bool) → T (implies a b) → a ≡ true → b ≡ true
implied true b t e = is b t
implied false b t e = absurd (subst T (sym e) tt)

pub one-true : (cs : List ℕ) (b : ℕ) → one_test cs b ≡ true → OneOf cs b
one-true [] b e = subst T (sym e) tt
one-true (c ∷ cs) b e = pick (eqb b c) refl e (one-true cs b)
  where
    pick : (x : Bool) → eqb b c ≡ x → (x || one_test cs b) ≡ true → (one_test cs b ≡ true → OneOf cs b) → OneOf (c ∷ cs) b
    pick true f g h = inl (eqb-true b c f)
    pick false f g h = inr (h g)

pub one-false : (cs : List ℕ) (b : ℕ) → one_test cs b ≡ false → ¬ OneOf cs b
one-false [] b e h = h
one-false (c ∷ cs) b e (inl f) = subst T (sym (ap (λ (x : Bool). x || one_test cs b) (eq-eqb b c f)) ∙ e) tt
one-false (c ∷ cs) b e (inr h) = pick (eqb b c) e (λ f. one-false cs b f h)
  where
    pick : (x : Bool) → (x || one_test cs b) ≡ false → (one_test cs b ≡ false → ⊥) → ⊥
    pick true g k = subst T g tt
    pick false g k = k g

pub in-true : (lo hi b : ℕ) → in_test lo hi b ≡ true → Between lo hi b
in-true lo hi b e = pick (leb lo b) (leb b hi) refl refl e
  where
    pick : (x y : Bool) → leb lo b ≡ x → leb b hi ≡ y → (x && y) ≡ true → Between lo hi b
    pick true true f g h = (leb-true lo b f, leb-true b hi g)
    pick true false f g h = absurd (subst T (sym h) tt)
    pick false y f g h = absurd (subst T (sym h) tt)

pub true-in : (lo hi b : ℕ) → Between lo hi b → in_test lo hi b ≡ true
true-in lo hi b h = rw (le-leb lo b h.0, le-leb b hi h.1)

in-false : (lo hi b : ℕ) → ¬ Between lo hi b → in_test lo hi b ≡ false
in-false lo hi b h = pick (in_test lo hi b) refl
  where
    pick : (x : Bool) → in_test lo hi b ≡ x → x ≡ false
    pick true e = absurd (h (in-true lo hi b e))
    pick false e = refl

-- which bytes have a kind
only : (k : ℕ) (f : ℕ → Bool) → T (all 256 (λ b. implies (eqb (kind_at b) k) (f b))) → (b : ℕ) → b < 256 → kind_at b ≡ k → f b ≡ true
only k f t b h e = implied (eqb (kind_at b) k) (f b) (all-at 256 (λ b. implies (eqb (kind_at b) k) (f b)) t b h) (eq-eqb (kind_at b) k e)

pub kind-one : (k : ℕ) (cs : List ℕ) → T (all 256 (λ b. implies (eqb (kind_at b) k) (one_test cs b))) → (b : ℕ) → b < 256 → kind_at b ≡ k → OneOf cs b
kind-one k cs t b h e = one-true cs b (only k (one_test cs) t b h e)

letter-true : (b : ℕ) → letter_test b ≡ true → Letter b
letter-true b e = pick (in_test 97 122 b) (in_test 65 90 b) refl refl e
  where
    pick : (x y : Bool) → in_test 97 122 b ≡ x → in_test 65 90 b ≡ y → (x || (y || eqb b 95)) ≡ true → Letter b
    pick true y f g h = inl (in-true 97 122 b f)
    pick false true f g h = inr (inl (in-true 65 90 b g))
    pick false false f g h = inr (inr (eqb-true b 95 h))

pub kind-letter : (b : ℕ) → b < 256 → kind_at b ≡ 2 → Letter b
unfolding kind_at one_of ranges
kind-letter b h e = letter-true b (only 2 letter_test tt b h e)

kind-digit : (b : ℕ) → b < 256 → kind_at b ≡ 3 → Between 48 57 b
unfolding kind_at one_of ranges
kind-digit b h e = in-true 48 57 b (only 3 (in_test 48 57) tt b h e)

pub kind-blank : (b : ℕ) → b < 256 → kind_at b ≡ 1 → OneOf blank_bytes b
unfolding kind_at one_of ranges
kind-blank = kind-one 1 blank_bytes tt

pub kind-quote : (b : ℕ) → b < 256 → kind_at b ≡ 11 → OneOf quotes b
unfolding kind_at one_of ranges
kind-quote = kind-one 11 quotes tt

pub kind-prefix : (b : ℕ) → b < 256 → kind_at b ≡ 8 → OneOf (38 ∷ 33 ∷ []) b
unfolding kind_at one_of ranges
kind-prefix = kind-one 8 (38 ∷ 33 ∷ []) tt

pub kind-suffix : (b : ℕ) → b < 256 → kind_at b ≡ 9 → OneOf (63 ∷ 42 ∷ 43 ∷ []) b
unfolding kind_at one_of ranges
kind-suffix = kind-one 9 (63 ∷ 42 ∷ 43 ∷ []) tt

-- a kind of one byte
alone-kind : (k c : ℕ) → T (all 256 (λ b. implies (eqb (kind_at b) k) (eqb b c))) → (b : ℕ) → b < 256 → kind_at b ≡ k → b ≡ c
alone-kind k c t b h e = eqb-true b c (only k (λ b. eqb b c) t b h e)

pub kind-hash : (b : ℕ) → b < 256 → kind_at b ≡ 4 → b ≡ 35
unfolding kind_at one_of ranges
kind-hash = alone-kind 4 35 tt

pub kind-opens : (b : ℕ) → b < 256 → kind_at b ≡ 5 → b ≡ 40
unfolding kind_at one_of ranges
kind-opens = alone-kind 5 40 tt

pub kind-closes : (b : ℕ) → b < 256 → kind_at b ≡ 6 → b ≡ 41
unfolding kind_at one_of ranges
kind-closes = alone-kind 6 41 tt

pub kind-slash : (b : ℕ) → b < 256 → kind_at b ≡ 7 → b ≡ 47
unfolding kind_at one_of ranges
kind-slash = alone-kind 7 47 tt

pub kind-dot : (b : ℕ) → b < 256 → kind_at b ≡ 10 → b ≡ 46
unfolding kind_at one_of ranges
kind-dot = alone-kind 10 46 tt

pub kind-bracket : (b : ℕ) → b < 256 → kind_at b ≡ 12 → b ≡ 91
unfolding kind_at one_of ranges
kind-bracket = alone-kind 12 91 tt

pub kind-less : (b : ℕ) → b < 256 → kind_at b ≡ 13 → b ≡ 60
unfolding kind_at one_of ranges
kind-less = alone-kind 13 60 tt

-- the kind of each byte in a range
between-kind : (lo hi k : ℕ) → hi < 256 → T (all 256 (λ b. implies (in_test lo hi b) (eqb (kind_at b) k))) → (b : ℕ) → Between lo hi b → kind_at b ≡ k
between-kind lo hi k h t b i =
    eqb-true (kind_at b) k (implied (in_test lo hi b) (eqb (kind_at b) k)
    (all-at 256 (λ b. implies (in_test lo hi b) (eqb (kind_at b) k)) t b (omega (arith, i.1))) (true-in lo hi b i))

pub letter-kind : (b : ℕ) → Letter b → kind_at b ≡ 2
unfolding kind_at one_of ranges
letter-kind b (inl i) = between-kind 97 122 2 (omega arith) tt b i
letter-kind b (inr (inl i)) = between-kind 65 90 2 (omega arith) tt b i
letter-kind b (inr (inr e)) = ap kind_at e

digit-kind : (b : ℕ) → Between 48 57 b → kind_at b ≡ 3
unfolding kind_at one_of ranges
digit-kind b i = between-kind 48 57 3 (omega arith) tt b i

-- what a test says of each of some bytes
abbrev each : List ℕ → (ℕ → Bool) → Bool
each [] f = true
each (c ∷ cs) f = f c && each cs f

pub each-one : (cs : List ℕ) (f : ℕ → Bool) → T (each cs f) → (b : ℕ) → OneOf cs b → f b ≡ true
each-one [] f t b h = absurd h
each-one (c ∷ cs) f t b (inl e) = is (f b) (subst (λ (j : ℕ). T (f j)) (sym e) (both_left (f c) (each cs f) t))
each-one (c ∷ cs) f t b (inr h) = each-one cs f (both_right (f c) (each cs f) t) b h

pub blank-kind : (b : ℕ) → OneOf blank_bytes b → kind_at b ≡ 1
unfolding kind_at one_of ranges
blank-kind b h = eqb-true (kind_at b) 1 (each-one blank_bytes (λ b. eqb (kind_at b) 1) tt b h)

pub quote-kind : (b : ℕ) → OneOf quotes b → kind_at b ≡ 11
unfolding kind_at one_of ranges
quote-kind b h = eqb-true (kind_at b) 11 (each-one quotes (λ b. eqb (kind_at b) 11) tt b h)

pub name-true : (b : ℕ) → b < 256 → name_byte b ≡ true → NameByte b
name-true b h e = pick (eqb (kind_at b) 2) refl e
  where
    pick : (x : Bool) → eqb (kind_at b) 2 ≡ x → (x || eqb (kind_at b) 3) ≡ true → NameByte b
    pick true f g = inl (kind-letter b h (eqb-true (kind_at b) 2 f))
    pick false f g = inr (kind-digit b h (eqb-true (kind_at b) 3 g))

pub true-name : (b : ℕ) → NameByte b → name_byte b ≡ true
true-name b (inl h) = rw (name_byte, letter-kind b h)
true-name b (inr h) = rw (name_byte, digit-kind b h)

-- ── octal digits ──
digit-true : (c : ℕ) → octal c ≡ true → Digit (c - 48) c
digit-true c e = let h = in-true 48 55 c e in (omega (arith, h.0), omega (arith, h.1))

true-digit : (x c : ℕ) → Digit x c → octal c ≡ true
true-digit x c h = true-in 48 55 c (omega (arith, h.0), omega (arith, h.0, h.1))

not-octal : (c : ℕ) → ¬ Octal c → octal c ≡ false
not-octal c h = in-false 48 55 c (λ i. h (c - 48, (omega (arith, i.0), omega (arith, i.1))))

octal-not : (c : ℕ) → octal c ≡ false → ¬ Octal c
octal-not c e o = subst T (sym (true-digit o.0 c o.1) ∙ e) tt

-- ── a character, if there is one ──
abbrev Spelt : List ℕ → ℕ → ℕ → Type 0
Spelt l b zero = Unit {0}
Spelt l b (suc n) = Spells b l (drop (suc n) l)

abbrev CharIs : List ℕ → Char → Type 0
CharIs l c = Spelt l c.byte c.width

by_cond : (P : Char → Type 0) (b : Bool) (x y : Char) → (b ≡ true → P x) → (b ≡ false → P y) → P (cond b x y)
by_cond P true x y h k = h refl
by_cond P false x y h k = k refl

escape-is : (c k v : ℕ) (r : List ℕ) → Escape k v → eqb c k ≡ true → Spells v (92 ∷ c ∷ r) r
escape-is c k v r h e = escaped (subst (λ (j : ℕ). Escape j v) (sym (eqb-true c k e)) h)

letters-sound : (c : ℕ) (r : List ℕ) → CharIs (92 ∷ c ∷ r) (letters c)
unfolding letters
letters-sound c r =
    let P : Char → Type 0 = CharIs (92 ∷ c ∷ r) in
    by_cond P (eqb c 110) _ _ (escape-is c 110 10 r n-lf) (λ _.
    by_cond P (eqb c 114) _ _ (escape-is c 114 13 r r-cr) (λ _.
    by_cond P (eqb c 116) _ _ (escape-is c 116 9 r t-tab) (λ _.
    by_cond P (eqb c 39) _ _ (escape-is c 39 39 r (same (one-true escapes 39 refl))) (λ _.
    by_cond P (eqb c 34) _ _ (escape-is c 34 34 r (same (one-true escapes 34 refl))) (λ _.
    by_cond P (eqb c 91) _ _ (escape-is c 91 91 r (same (one-true escapes 91 refl))) (λ _.
    by_cond P (eqb c 93) _ _ (escape-is c 93 93 r (same (one-true escapes 93 refl))) (λ _.
    by_cond P (eqb c 92) _ _ (escape-is c 92 92 r (same (one-true escapes 92 refl))) (λ _. tt))))))))

pub both_true : (a b : Bool) → (a && b) ≡ true → (a ≡ true) × (b ≡ true)
both_true true true e = (refl, refl)
both_true true false e = absurd (subst T (sym e) tt)
both_true false b e = absurd (subst T (sym e) tt)

octals-sound : (c : ℕ) (r : List ℕ) → octal c ≡ true → CharIs (92 ∷ c ∷ r) (octals c (get_or r 0 256) (get_or r 1 256))
unfolding octals first_octal
octals-sound c [] o = one (digit-true c o) (λ f. f)
octals-sound c (d ∷ []) o =
    let P : Char → Type 0 = CharIs (92 ∷ c ∷ d ∷ []) in
    by_cond P (octal d) _ _
    (λ p. by_cond P (leb c 50 && false) _ _ (λ q. absurd (subst T (sym (both_true (leb c 50) false q).1) tt)) (λ _. two (digit-true c o) (digit-true d p) (λ _ f. f)))
    (λ p. one (digit-true c o) (octal-not d p))
octals-sound c (d ∷ e ∷ r) o =
    let P : Char → Type 0 = CharIs (92 ∷ c ∷ d ∷ e ∷ r) in
    by_cond P (octal d) _ _
    (λ p. by_cond P (leb c 50 && octal e) _ _
    (λ q. let h = both_true (leb c 50) (octal e) q in three (omega (arith, leb-true c 50 h.0)) (digit-true c o) (digit-true d p) (digit-true e h.1))
    (λ q. two (digit-true c o) (digit-true d p) (λ h f. subst T (sym (two-false c e h f) ∙ q) tt)))
    (λ p. one (digit-true c o) (octal-not d p))
  where
    two-false : (c e : ℕ) → c - 48 ≤ 2 → Octal e → (leb c 50 && octal e) ≡ true
    two-false c e h f = rw (le-leb c 50 (omega arith), true-digit f.0 e f.1)

-- behind a `\`
abbrev behind : List ℕ → Char
behind l = cond (octal (get_or l 0 256)) (octals (get_or l 0 256) (get_or l 1 256) (get_or l 2 256)) (letters (get_or l 0 256))

behind-sound : (l : List ℕ) → CharIs (92 ∷ l) (behind l)
unfolding letters
behind-sound [] = tt
behind-sound (c ∷ r) = by_cond (CharIs (92 ∷ c ∷ r)) (octal c) _ _ (octals-sound c r) (λ _. letters-sound c r)

char-sound : (l : List ℕ) → Bytes l → CharIs l (char l)
unfolding char four
char-sound [] h = tt
char-sound (b ∷ l) h =
    by_cond (CharIs (b ∷ l)) (eqb b 256) _ _ (λ e. absurd (omega (arith, h.0, eqb-true b 256 e))) (λ _.
    by_cond (CharIs (b ∷ l)) (eqb b 92) _ _ (λ e. subst (λ (k : ℕ). CharIs (k ∷ l) (behind l)) (sym (eqb-true b 92 e)) (behind-sound l))
    (λ e. itself (eqb-false b 92 e)))

-- the character that is spelled is the one that the function gives
abbrev Given : List ℕ → ℕ → List ℕ → Type 0
Given l b r = (w : ℕ) × (char l ≡ got b (suc w)) × (drop (suc w) l ≡ r) × (suc w + length r ≡ length l)

escape-test : (c : ℕ) → OneOf escapes c → (octal c ≡ false) × (letters c ≡ got c 2)
unfolding letters
escape-test c h =
    let a = each-one escapes (λ c. not (octal c)) tt c h in
    let b = each-one escapes (λ c. eqb (letters c).byte c) tt c h in
    let d = each-one escapes (λ c. eqb (letters c).width 2) tt c h in
    (not-true (octal c) a, same-char (letters c) c 2 (eqb-true (letters c).byte c b) (eqb-true (letters c).width 2 d))
  where
    same-char : (x : Char) (b w : ℕ) → x.byte ≡ b → x.width ≡ w → x ≡ got b w
    same-char x b w e f = λ i. got (e i) (f i)

char-escape : (c b : ℕ) (r : List ℕ) → Escape c b → char (92 ∷ c ∷ r) ≡ got b 2
unfolding char four letters
char-escape c b r n-lf = refl
char-escape c b r r-cr = refl
char-escape c b r t-tab = refl
char-escape c b r (same h) = let e = escape-test c h in ap (λ (x : Bool). cond x (octals c (get_or r 0 256) (get_or r 1 256)) (letters c)) e.0 ∙ e.1

char-octal : (x c : ℕ) (r : List ℕ) → Digit x c → char (92 ∷ c ∷ r) ≡ octals c (get_or r 0 256) (get_or r 1 256)
unfolding char four
char-octal x c r h = rw (true-digit x c h)

first-octal : (r : List ℕ) → ¬ HeadIs Octal r → octal (get_or r 0 256) ≡ false
first-octal [] h = refl
first-octal (c ∷ r) h = not-octal c h

worth : (x c : ℕ) → Digit x c → c - 48 ≡ x
worth x c h = omega (arith, h.0)

no_third : (x c : ℕ) (r : List ℕ) → Digit x c → (x ≤ 2 → ¬ HeadIs Octal r) → (leb c 50 && octal (get_or r 0 256)) ≡ false
no_third x c r h k = pick (leb c 50) refl
  where
    pick : (t : Bool) → leb c 50 ≡ t → (t && octal (get_or r 0 256)) ≡ false
    pick true e = first-octal r (k (omega (arith, h.0, leb-true c 50 e)))
    pick false e = refl

pub char-complete : {b : ℕ} {l r : List ℕ} → Spells b l r → Bytes l → Given l b r
unfolding char four octals first_octal
char-complete (itself {b = b} n) h = (0, rw (ne_eqb b 256 (λ e. omega (arith, e, h.0)), ne_eqb b 92 n), refl, omega arith)
char-complete (escaped {c = c} {b = b} {r = r} n) h = (1, char-escape c b r n, refl, omega arith)
char-complete (three {x = x} {y = y} {z = z} {c = c} {d = d} {e = e} {r = r} n i j k) h =
    (3, char-octal x c (d ∷ e ∷ r) i ∙ rw (true-digit y d j, le-leb c 50 (omega (arith, i.0)), true-digit z e k, worth x c i, worth y d j, worth z e k), refl, omega arith)
char-complete (two {x = x} {y = y} {c = c} {d = d} {r = r} i j n) h =
    (2, char-octal x c (d ∷ r) i ∙ rw (true-digit y d j, no_third x c r i n, worth x c i, worth y d j), refl, omega arith)
char-complete (one {x = x} {c = c} {r = r} i n) h = (1, char-octal x c r i ∙ rw (first-octal r n, worth x c i), refl, omega arith)

-- ── an item of a class ──
abbrev ItemIs : List ℕ → chars.Item → Type 0
ItemIs l i = 0 < i.width → ItemSpelt i.span l (drop i.width l)

nothing : (l : List ℕ) → ItemIs l (chars.item 0 0 0)
nothing l h = absurd (omega arith)

far : (n v : ℕ) (l k : List ℕ) → drop (suc n) l ≡ 45 ∷ k → drop (suc n + 1 + suc v) l ≡ drop (suc v) k
far n v l k e =
    sym (drop-drop (suc v) (suc n + 1) l) ∙ ap (drop (suc v)) (sym (drop-drop 1 (suc n) l) ∙ ap (drop 1) e)

ranged-sound : (a b n v : ℕ) (l k : List ℕ) → Spells a l (45 ∷ k) → drop (suc n) l ≡ 45 ∷ k → Spelt k b v → ItemIs l (chars.ranged a (suc n) b v)
ranged-sound a b n zero l k s e t = nothing l
ranged-sound a b n (suc v) l k s e t = pick (leb a b) refl
  where
    pick : (x : Bool) → leb a b ≡ x → ItemIs l (cond x (chars.item a b (suc n + 1 + suc v)) (chars.item 0 0 0))
    pick true f = λ _. subst (λ (r : List ℕ). ItemSpelt (range a b) l r) (sym (far n v l k e)) (ranged s t (leb-true a b f))
    pick false f = nothing l

alone-sound : (a n : ℕ) (l k : List ℕ) → Spells a l k → drop (suc n) l ≡ k → ¬ HeadIs (λ (b : ℕ). b ≡ 45) k → ItemIs l (chars.item a a (suc n))
alone-sound a n l k s e f _ = subst (λ (r : List ℕ). ItemSpelt (range a a) l r) (sym e) (alone s f)

dashed-sound : (a n : ℕ) (l k : List ℕ) → Spells a l k → drop (suc n) l ≡ k → Bytes k → ItemIs l (dashed a (suc n) k)
unfolding dashed
dashed-sound a n l [] s e h = alone-sound a n l [] s e (λ f. f)
dashed-sound a n l (b ∷ k) s e h = pick (eqb b 45) refl
  where
    pick : (x : Bool) → eqb b 45 ≡ x → ItemIs l (elim x [ true ↦ (let c : Char = char k in chars.ranged a (suc n) c.byte c.width) | false ↦ chars.item a a (suc n) ])
    pick true f =
        let g : b ∷ k ≡ 45 ∷ k = ap (λ (j : ℕ). j ∷ k) (eqb-true b 45 f) in
        ranged-sound a (char k).byte n (char k).width l k (subst (Spells a l) g s) (e ∙ g) (char-sound k h.1)
    pick false f = alone-sound a n l (b ∷ k) s e (eqb-false b 45 f)

started-sound : (a w : ℕ) (l : List ℕ) → Spelt l a w → Bytes l → ItemIs l (started a w l)
started-sound a zero l s h = nothing l
started-sound a (suc n) l s h = dashed-sound a n l (drop (suc n) l) s refl (bytes_drop (suc n) l h)

pub listed-sound : (l : List ℕ) → Bytes l → 0 < (listed l).width → ItemSpelt (listed l).span l (drop (listed l).width l)
unfolding listed
listed-sound l h = started-sound (char l).byte (char l).width l (char-sound l h) h

pub single-sound : (l : List ℕ) → Bytes l → 0 < (single l).width → Spells (single l).span.lo l (drop (single l).width l)
unfolding single
single-sound l h k = go (char l).width (char-sound l h) k
  where
    go : (w : ℕ) → Spelt l (char l).byte w → 0 < w → Spells (char l).byte l (drop w l)
    go zero s k = absurd (omega arith)
    go (suc w) s k = s

dashed-alone : (a n : ℕ) (r : List ℕ) → ¬ HeadIs (λ (b : ℕ). b ≡ 45) r → dashed a n r ≡ chars.item a a n
unfolding dashed
dashed-alone a n [] f = refl
dashed-alone a n (b ∷ r) f = rw (dashed, ne_eqb b 45 f)

-- what one turn of the loop reads
abbrev pub Turn : (List ℕ → chars.Item) → List ℕ → Range → List ℕ → Type 0
Turn step l x r = (w : ℕ) × (step l ≡ record { span = x; width = suc w }) × (drop (suc w) l ≡ r) × (suc w + length r ≡ length l)

pub single-complete : {b : ℕ} {l r : List ℕ} → Spells b l r → Bytes l → Turn single l (range b b) r
unfolding single
single-complete s h = let g = char-complete s h in (g.0, ap (λ (c : Char). chars.item c.byte c.byte c.width) g.1, g.2, g.3)

listed_at : (l : List ℕ) (a w : ℕ) → char l ≡ got a (suc w) → listed l ≡ dashed a (suc w) (drop (suc w) l)
unfolding listed
listed_at l a w e = ap (λ (c : Char). started c.byte c.width l) e

dashed-ranged : (a b n v : ℕ) (k : List ℕ) → char k ≡ got b (suc v) → a ≤ b → dashed a n (45 ∷ k) ≡ chars.item a b (n + 1 + suc v)
unfolding dashed
dashed-ranged a b n v k e h = ap (λ (c : Char). chars.ranged a n c.byte c.width) e ∙ rw (le-leb a b h)

pub listed-complete : {x : Range} {l r : List ℕ} → ItemSpelt x l r → Bytes l → Turn listed l x r
listed-complete (alone {a = a} {l = l} {r = r} s f) h =
    let g = char-complete s h in
    (g.0, listed_at l a g.0 g.1 ∙ ap (dashed a (suc g.0)) g.2 ∙ dashed-alone a (suc g.0) r f, g.2, g.3)
listed-complete (ranged {a = a} {b = b} {l = l} {k = k} {r = r} s t i) h =
    let g = char-complete s h in
    let j = char-complete t (subst Bytes g.2 (bytes_drop (suc g.0) l h)).1 in
    let w : ℕ = g.0 + 1 + suc j.0 in
    let e : suc g.0 + 1 + suc j.0 ≡ suc w = omega arith in (
      w,
      listed_at l a g.0 g.1 ∙ ap (dashed a (suc g.0)) g.2 ∙ dashed-ranged a b (suc g.0) j.0 k j.1 i ∙ ap (chars.item a b) e,
      ap (λ (n : ℕ). drop n l) (sym e) ∙ far g.0 j.0 l k g.2 ∙ j.2,
      omega (arith, g.3, j.3),
    )
