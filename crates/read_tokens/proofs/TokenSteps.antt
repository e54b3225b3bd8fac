-- The ways through blanks, names, lakes and a token's kind, each as an equation. Assumes nothing.
use Prim.Native.Nat.{ℕ, suc, ◌+◌, ◌-◌, ◌≤◌, ◌<◌}
use mathlib.Core.Path.{◌≡◌, refl, sym, ap, ◌∙◌}
use mathlib.Core.Bool.{Bool, true, false, cond}
use mathlib.Core.List.{List, [], ◌∷◌}
use native.Mathlib.Omega.{arith}
use native.Mathlib.Numerals.{add-one}
use lib.Dec.{eqb, ltb}
use lib.ListN.{length, drop, get_or, drop_of_length-le, get_or-eq_default}
use lib.Seq.{drop-cons, drop-drop}
use borrow.Author.Tests.{eq-eqb, ne_eqb, eqb-true, eqb-false, ltb-true, ltb-false}
use Rattle.read_tokens.specs.Kinds.{kind_at, one_of, ranges}
use Rattle.read_tokens.specs.declared.Mode.{Mode}
use Rattle.read_tokens.specs.declared.Mode.TheVariants.{Lake, Plain}
use Rattle.std.specs.Prelude.{Option, Some, None, unwrap_or}
use Rattle.read_tokens.specs.declared.Kind.{Kind}
use Rattle.read_tokens.specs.declared.Kind.TheVariants as kind
use Rattle.read_tokens.specs.declared.kinds.ByteKind.{ByteKind}
use Rattle.read_tokens.specs.declared.kinds.ByteKind.TheVariants.{Other, Blank, Letter, Digit, Hash, Open, Close, Slash, Prefix, Suffix, Dot, Quote, Class, Less}
use Rattle.read_tokens.specs.contracts.kinds.ByteKind.{the_type}
use denote.Enum.Declared.{tag_of}
use denote.Enum.Bare.{sameb}
use Rattle.read_tokens.specs.steps.Bytes.{number_of, opened}
use Rattle.read_tokens.specs.Token as spec
use Rattle.read_tokens.specs.Token.{lake, symbol, arrow}
use Rattle.read_tokens.specs.Tokens.{tok, bad_at, blank_by, skip, name_byte, name_span, lake_by, angle, by_kind, token_from, token_at}
use Rattle.read_tokens.specs.steps.Code.{arrow_is, coded, made, named, laked}
use Rattle.read_tokens.proofs.CharSteps.{suffix, first-at, get_d-inside}

-- ── kinds of bytes, as code compares them ──
byte-tag : (k : ByteKind) → tag_of the_type k ≡ number_of k
byte-tag Other = refl
byte-tag Blank = refl
byte-tag Letter = refl
byte-tag Digit = refl
byte-tag Hash = refl
byte-tag Open = refl
byte-tag Close = refl
byte-tag Slash = refl
byte-tag Prefix = refl
byte-tag Suffix = refl
byte-tag Dot = refl
byte-tag Quote = refl
byte-tag Class = refl
byte-tag Less = refl

pub letter-yes : (k : ByteKind) → sameb the_type k Letter ≡ true → number_of k ≡ 2
letter-yes k e = sym (byte-tag k) ∙ eqb-true _ 2 e

pub letter-no : (k : ByteKind) → sameb the_type k Letter ≡ false → number_of k ≡ 2 → ⊥
letter-no k e f = eqb-false _ 2 e (byte-tag k ∙ f)

-- ── blanks ──
pub skip-end : (m : Bool) (s : List ℕ) (i : ℕ) → length s ≤ i → skip m i (drop i s) ≡ i
unfolding skip
skip-end m s i h = rw (drop_of_length-le s h)

pub skip_stop : (m : Bool) (s : List ℕ) (i : ℕ) → i < length s → eqb (blank_by m (get_or s i 0)) 2 ≡ true → skip m i (drop i s) ≡ i
unfolding skip
skip_stop m s i h e = rw (suffix s i h, skip, e)

pub skip-more : (m : Bool) (s : List ℕ) (i : ℕ) → i < length s → eqb (blank_by m (get_or s i 0)) 2 ≡ false
    → skip m i (drop i s) ≡ skip (eqb (blank_by m (get_or s i 0)) 1) (i + 1) (drop (i + 1) s)
unfolding skip
skip-more m s i h e = rw (suffix s i h, skip, e, add-one)

-- a space is a blank
pub space-more : (s : List ℕ) (i : ℕ) → i < length s → get_or s i 0 ≡ 32 → skip false (i + 1) (drop (i + 1) s) ≡ skip false i (drop i s)
unfolding kind_at one_of ranges
space-more s i h e = sym (skip-more false s i h (ap (λ (b : ℕ). eqb (blank_by false b) 2) e) ∙ ap (λ (b : ℕ). skip (eqb (blank_by false b) 1) (i + 1) (drop (i + 1) s)) e)

-- by what code is told of a byte
pub opened-none : (n : ℕ) → None ≡ opened n → eqb n 2 ≡ true
opened-none n e = go (eqb n 2) e
  where
    go : (x : Bool) → None ≡ cond x None (Some (eqb n 1)) → x ≡ true
    go true e = refl
    go false e = let z : ◌≡◌ {A = ℕ} 0 1 = cc in absurd (omega arith)

pub opened-some : (n : ℕ) (b : Bool) → Some b ≡ opened n → (eqb n 2 ≡ false) × (b ≡ eqb n 1)
opened-some n b e = go (eqb n 2) e
  where
    go : (x : Bool) → Some b ≡ cond x None (Some (eqb n 1)) → (x ≡ false) × (b ≡ eqb n 1)
    go true e = let z : ◌≡◌ {A = ℕ} 0 1 = cc in absurd (omega arith)
    go false e = (refl, ap (λ (o : Option Bool). unwrap_or o b) e)

-- ── names ──
span-by : (b : ℕ) (l : List ℕ) (x : Bool) → name_byte b ≡ x → name_span (b ∷ l) ≡ cond x (b ∷ name_span l) []
unfolding name_span
span-by b l x e = ap (λ (y : Bool). let z : List ℕ = elim y [ true ↦ b ∷ name_span l | false ↦ [] ] in z) e ∙ go x
  where
    go : (x : Bool) → (let z : List ℕ = elim x [ true ↦ b ∷ name_span l | false ↦ [] ] in z) ≡ cond x (b ∷ name_span l) []
    go true = refl
    go false = refl

pub span-end : (s : List ℕ) (i : ℕ) → length s ≤ i → i + length (name_span (drop i s)) ≡ i
unfolding name_span
span-end s i h = rw (drop_of_length-le s h) (omega arith)

pub span-stop : (s : List ℕ) (i : ℕ) → i < length s → name_byte (get_or s i 0) ≡ false → i + length (name_span (drop i s)) ≡ i
span-stop s i h e =
    let u = ap name_span (suffix s i h) ∙ span-by (get_or s i 0) (drop (i + 1) s) false e in omega (arith, ap length u)

pub span_more : (s : List ℕ) (i : ℕ) → i < length s → name_byte (get_or s i 0) ≡ true → i + length (name_span (drop i s)) ≡ i + 1 + length (name_span (drop (i + 1) s))
span_more s i h e =
    let u = ap name_span (suffix s i h) ∙ span-by (get_or s i 0) (drop (i + 1) s) true e in omega (arith, ap length u)

pub name-is : (s : List ℕ) (i e : ℕ) → e ≡ i + length (name_span (drop i s)) → made kind.Name i e (e - i) ≡ coded (named i (name_span (drop i s)))
name-is s i e h = same h (omega arith)
  where
    same : {a b c d : ℕ} → a ≡ b → c ≡ d → made kind.Name i a c ≡ made kind.Name i b d
    same x y = λ j. made kind.Name i (x j) (y j)

-- ── `<` ──
module _ (s : List ℕ) (i : ℕ) where
  pub lake-end : length s ≤ i + 1 → coded (bad_at i) ≡ coded (laked i (drop (suc i) s))
  unfolding laked
  lake-end h = let k : length s ≤ suc i = omega arith in rw (drop_of_length-le s k)

  apart : i + 1 < length s → drop (suc i) s ≡ get_or s (i + 1) 0 ∷ drop (i + 2) s
  apart h =
      let e : i + 1 + 1 ≡ i + 2 = omega arith in
      ap (λ (j : ℕ). drop j s) (sym (add-one i)) ∙ suffix s (i + 1) h ∙ ap (λ (j : ℕ). get_or s (i + 1) 0 ∷ drop j s) e

  by-letter : (b : ℕ) (l : List ℕ) (x : Bool) → eqb (kind_at b) 2 ≡ x → laked i (b ∷ l) ≡ cond x (lake_by i (name_span (b ∷ l)) (drop (length (name_span (b ∷ l))) (b ∷ l))) (bad_at i)
  unfolding laked
  by-letter b l x e =
      ap (λ (y : Bool). let z : spec.Token = elim y [ true ↦ lake_by i (name_span (b ∷ l)) (drop (length (name_span (b ∷ l))) (b ∷ l)) | false ↦ bad_at i ] in z) e ∙ go x
    where
      go : (x : Bool) → (let z : spec.Token = elim x [ true ↦ lake_by i (name_span (b ∷ l)) (drop (length (name_span (b ∷ l))) (b ∷ l)) | false ↦ bad_at i ] in z) ≡ cond x
          (lake_by i (name_span (b ∷ l)) (drop (length (name_span (b ∷ l))) (b ∷ l))) (bad_at i)
      go true = refl
      go false = refl

  pub lake-first : i + 1 < length s → (kind_at (get_or s (i + 1) 0) ≡ 2 → ⊥) → coded (bad_at i) ≡ coded (laked i (drop (suc i) s))
  lake-first h f =
      sym (ap coded (ap (λ (l : List ℕ). laked i l) (apart h) ∙ by-letter (get_or s (i + 1) 0) (drop (i + 2) s) false (ne_eqb (kind_at (get_or s (i + 1) 0)) 2 f)))

  behind : i + 1 < length s → kind_at (get_or s (i + 1) 0) ≡ 2 → (e : ℕ) → e ≡ i + 1 + length (name_span (drop (i + 1) s)) → laked i (drop (suc i) s) ≡ lake_by i (name_span (drop (i + 1) s)) (drop e
      s)
  behind h f e g =
      ap (λ (l : List ℕ). laked i l) (apart h)
      ∙ by-letter (get_or s (i + 1) 0) (drop (i + 2) s) true (eq-eqb (kind_at (get_or s (i + 1) 0)) 2 f)
      ∙ ap (λ (l : List ℕ). lake_by i (name_span l) (drop (length (name_span l)) l)) (sym (apart h) ∙ ap (λ (j : ℕ). drop j s) (sym (add-one i)))
      ∙ ap (λ (l : List ℕ). lake_by i (name_span (drop (i + 1) s)) l) (drop-drop (length (name_span (drop (i + 1) s))) (i + 1) s ∙ ap (λ (j : ℕ). drop j s) (sym g))

  no-closing : (w l : List ℕ) → (get_or l 0 256 ≡ 62 → ⊥) → lake_by i w l ≡ bad_at i
  no-closing w [] f = refl
  no-closing w (b ∷ l) f = rw (ne_eqb b 62 f)

  closing : (w l : List ℕ) → get_or l 0 256 ≡ 62 → lake_by i w l ≡ tok (symbol (lake w)) i (i + length w + 2)
  closing w [] f = absurd (omega arith)
  closing w (b ∷ l) f = rw (eq-eqb b 62 f)

  module _ (h : i + 1 < length s) (f : kind_at (get_or s (i + 1) 0) ≡ 2) (e : ℕ) (g : e ≡ i + 1 + length (name_span (drop (i + 1) s))) where
    pub lake-open : (get_or s e 256 ≡ 62 → ⊥) → coded (bad_at i) ≡ coded (laked i (drop (suc i) s))
    lake-open k = sym (ap coded (behind h f e g ∙ no-closing (name_span (drop (i + 1) s)) (drop e s) (λ x. k (sym (first-at s e) ∙ x))))

    pub lake-is : get_or s e 256 ≡ 62 → made kind.Lake i (e + 1) (e - (i + 1)) ≡ coded (laked i (drop (suc i) s))
    lake-is k =
        same (omega arith) (omega arith)
        ∙ sym (ap coded (behind h f e g ∙ closing (name_span (drop (i + 1) s)) (drop e s) (first-at s e ∙ k)))
      where
        same : {a b c d : ℕ} → a ≡ b → c ≡ d → made kind.Lake i a c ≡ made kind.Lake i b d
        same x y = λ j. made kind.Lake i (x j) (y j)

  at_suc : get_or (drop (suc i) s) 0 256 ≡ get_or s (i + 1) 256
  at_suc = first-at s (suc i) ∙ ap (λ (j : ℕ). get_or s j 256) (sym (add-one i))

  arrow-go : (m : Mode) (l : List ℕ) → get_or l 0 256 ≡ 45 → angle m i l ≡ tok arrow i (i + 2)
  unfolding angle
  arrow-go Lake [] e = absurd (omega arith)
  arrow-go Plain [] e = absurd (omega arith)
  arrow-go Lake (b ∷ l) e = rw (angle, eq-eqb b 45 e)
  arrow-go Plain (b ∷ l) e = rw (eq-eqb b 45 e)

  pub less-arrow : (m : Mode) → get_or s (i + 1) 256 ≡ 45 → made kind.Arrow i (i + 2) 0 ≡ coded (angle m i (drop (suc i) s))
  less-arrow m e = sym (ap coded (arrow-go m (drop (suc i) s) (at_suc ∙ e)))

  plain-go : (l : List ℕ) → (get_or l 0 256 ≡ 45 → ⊥) → angle Plain i l ≡ bad_at i
  unfolding angle
  plain-go [] f = refl
  plain-go (b ∷ l) f = rw (ne_eqb b 45 f)

  pub less-plain : (get_or s (i + 1) 256 ≡ 45 → ⊥) → coded (bad_at i) ≡ coded (angle Plain i (drop (suc i) s))
  less-plain f = sym (ap coded (plain-go (drop (suc i) s) (λ x. f (sym at_suc ∙ x))))

  lake-go : (l : List ℕ) → (get_or l 0 256 ≡ 45 → ⊥) → angle Lake i l ≡ laked i l
  unfolding angle laked
  lake-go [] f = refl
  lake-go (b ∷ l) f = rw (angle, ne_eqb b 45 f)

  pub less-lake : (get_or s (i + 1) 256 ≡ 45 → ⊥) → coded (laked i (drop (suc i) s)) ≡ coded (angle Lake i (drop (suc i) s))
  less-lake f = sym (ap coded (lake-go (drop (suc i) s) (λ x. f (sym at_suc ∙ x))))

-- ── the token ──
pub token_end : (m : Mode) (s : List ℕ) (at i : ℕ) → i ≡ skip false at (drop at s) → length s ≤ i → made kind.End i i 0 ≡ coded (token_at m s at)
unfolding token_at token_from
token_end m s at i e h = rw (← e, drop_of_length-le s h)

token-here : (m : Mode) (s : List ℕ) (at i k : ℕ) → i ≡ skip false at (drop at s) → i < length s → kind_at (get_or s i 0) ≡ k
    → by_kind k m (get_or s i 0) i (drop (suc i) s) ≡ token_at m s at
unfolding token_at token_from
token-here m s at i k e h f = rw (← e, drop-cons s i 0 h, f)

-- by the number of the byte's kind, for all arms of a match
pub token-is : (m : Mode) (s : List ℕ) (at i : ℕ) {k n : ByteKind} → i ≡ skip false at (drop at s) → i < length s → number_of k ≡ kind_at (get_or s i 0) → k ≡ n
    → coded (by_kind (number_of n) m (get_or s i 0) i (drop (suc i) s)) ≡ coded (token_at m s at)
token-is m s at i e h f g = ap coded (token-here m s at i _ e h (sym f ∙ ap number_of g))

-- where blanks end at the same place the token is the same
pub token-moved : (m : Mode) (s : List ℕ) (i at : ℕ) → skip false i (drop i s) ≡ skip false at (drop at s) → token_at m s i ≡ token_at m s at
unfolding token_at
token-moved m s i at e = ap (λ (j : ℕ). token_from m j (drop j s)) e

-- `<` begins the arrow exactly if `-` follows
abbrev is_arrow : spec.Token → Bool
is_arrow t = arrow_is t.is

lake-no-arrow : (i : ℕ) (l : List ℕ) → is_arrow (laked i l) ≡ false
unfolding laked
lake-no-arrow i [] = refl
lake-no-arrow i (b ∷ l) = ap is_arrow (by-letter [] i b l (eqb (kind_at b) 2) refl) ∙ go (eqb (kind_at b) 2)
  where
    shut : (w m : List ℕ) → is_arrow (lake_by i w m) ≡ false
    shut w [] = refl
    shut w (d ∷ m) = by (eqb d 62)
      where
        by : (x : Bool) → is_arrow (cond x (tok (symbol (lake w)) i (i + length w + 2)) (bad_at i)) ≡ false
        by true = refl
        by false = refl

    go : (x : Bool) → is_arrow (cond x (lake_by i (name_span (b ∷ l)) (drop (length (name_span (b ∷ l))) (b ∷ l))) (bad_at i)) ≡ false
    go true = shut (name_span (b ∷ l)) (drop (length (name_span (b ∷ l))) (b ∷ l))
    go false = refl

angle-arrow : (m : Mode) (i : ℕ) (l : List ℕ) → eqb (get_or l 0 256) 45 ≡ is_arrow (angle m i l)
angle-arrow m i l = go m (eqb (get_or l 0 256) 45) refl
  where
    go : (m : Mode) (x : Bool) → eqb (get_or l 0 256) 45 ≡ x → x ≡ is_arrow (angle m i l)
    go m true e = sym (ap is_arrow (arrow-go [] i m l (eqb-true (get_or l 0 256) 45 e)))
    go Plain false e = sym (ap is_arrow (plain-go [] i l (eqb-false (get_or l 0 256) 45 e)))
    go Lake false e = sym (ap is_arrow (lake-go [] i l (eqb-false (get_or l 0 256) 45 e)) ∙ lake-no-arrow i l)

pub byte_inside : (s : List ℕ) (i : ℕ) → get_or s i 256 ≡ 60 → i < length s
byte_inside s i e = go (ltb i (length s)) refl
  where
    go : (b : Bool) → ltb i (length s) ≡ b → i < length s
    go true f = ltb-true i (length s) f
    go false f = absurd (omega (arith, get_or-eq_default s 256 (ltb-false i (length s) f)))

pub less-at : (m : Mode) (s : List ℕ) (i : ℕ) → get_or s i 256 ≡ 60 → eqb (get_or s (i + 1) 256) 45 ≡ arrow_is (token_at m s i).is
unfolding kind_at one_of ranges by_kind
less-at m s i e =
    let h : i < length s = byte_inside s i e in
    let f : get_or s i 0 ≡ 60 = get_d-inside s i 0 256 h ∙ e in
    let stop : i ≡ skip false i (drop i s) = sym (skip_stop false s i h (ap (λ (b : ℕ). eqb (blank_by false b) 2) f)) in
    ap (λ (b : ℕ). eqb b 45) (sym (at_suc s i)) ∙ angle-arrow m i (drop (suc i) s)
    ∙ ap is_arrow (token-here m s i i 13 stop h (ap kind_at f))

pub one-is : (k : Kind) (i : ℕ) → made k i (i + 1) 0 ≡ made k i (suc i) 0
one-is k i = ap (λ (n : ℕ). made k i n 0) (add-one i)
