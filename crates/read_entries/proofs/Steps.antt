-- One law for each way through the functions over records and expressions. Assumes nothing.
use mir.Val.{bool_byte as from_bool}
use Prim.Native.Nat.{ℕ, zero, suc, ◌+◌, ◌-◌, ◌*◌, ◌≤◌, ◌<◌}
use mathlib.Core.Path.{◌≡◌, refl, sym, ap, ◌∙◌, subst}
use mathlib.Core.Bool.{Bool, true, false, cond, ◌&&◌}
use mathlib.Core.List.{List, [], ◌∷◌, map}
use native.Mathlib.Omega.{arith}
use native.Mathlib.Numerals.{add-one}
use lib.Dec.{eqb, leb}
use lib.ListN.{length, length-set, get_or, set, drop, replicate, drop_of_length-le}
use lib.Seq.{sets, drop-cons}
use borrow.Author.Tests.{lt-ltb, le-ltb}
use Rattle.std.specs.Bool.{MatchBool}
use Rattle.std.specs.List.{range_with_len, AllWithin, HoldsAt}
use Rattle.std.proofs.lemmas.List.FromFn.{get_or-range_with_len, length-range_with_len}
use Rattle.grammar.specs.Same.{same_bytes}
use Rattle.grammar.specs.laws.Same.{bytes-refl, bytes-sound}
use Rattle.read_tokens.specs.Bounds.{first_octal}
use Rattle.read_tokens.specs.Chars.{Char, octal, octals, letters, four, char}
use Rattle.read_tokens.specs.steps.Code.{literal_from}
use Rattle.grammar_table.specs.Table.{expressions_at, expression_words, expression_count, terminal_key, terminal_words, symbols_at, symbol_words, body_at, words_from}
use Rattle.grammar_table.specs.steps.Rows.{row_is}
use Rattle.grammar_table.specs.laws.Words.{no_more, words-length, words-at, words-ext, words-places}
use Rattle.grammar_table.specs.laws.Compared.{compared-on, compared-not, row_first, row-rest, words-all, words-but-one}
use Rattle.read_entries.specs.steps.Entries.{symbol_row, bit_of, push_by, pushed, bodied_by, bodied}
use Rattle.read_entries.specs.steps.Leaves.{zeros, spelled, Stands, words_of}
use Rattle.read_entries.specs.declared.leaves.Leaf.{Leaf}
use Rattle.read_entries.specs.laws.Decoded.{words_long}

-- ── stores into a record, one after the other ──
pub store-on : (row : List ℕ) (k i b : ℕ) (l m : List ℕ) → l ≡ b ∷ m → sets row (k + i) l ≡ sets (set row (k + i) b) (k + (i + 1)) m
store-on row k i b l m e = ap (λ (x : List ℕ). sets row (k + i) x) e ∙ ap (λ (y : ℕ). sets (set row (k + i) b) y m) (let f : suc (k + i) ≡ k + (i + 1) = omega arith in f)

pub store-next : (row row' : List ℕ) (k i b : ℕ) (l m : List ℕ) → l ≡ b ∷ m → row' ≡ set row (k + i) b → sets row (k + i) l ≡ sets row' (k + (i + 1)) m
store-next row row' k i b l m e f = store-on row k i b l m e ∙ ap (λ (x : List ℕ). sets x (k + (i + 1)) m) (sym f)

pub store-whole : (row : List ℕ) (k : ℕ) (l m : List ℕ) → l ≡ m → sets row k l ≡ sets row (k + 0) m
store-whole row k l m e = ap (λ (x : List ℕ). sets row k x) e ∙ ap (λ (y : ℕ). sets row y m) (let f : k ≡ k + 0 = omega arith in f)

pub store-none : (row : List ℕ) (k : ℕ) (l : List ℕ) → l ≡ [] → sets row k l ≡ row
store-none row k l e = ap (λ (x : List ℕ). sets row k x) e

-- ── names ──
pub words-whole : (s : List ℕ) (from n : ℕ) → words_from s from n ≡ words_from s (from + 0) (n - 0)
words-whole s from n = by from (from + 0) n (n - 0) (omega arith) (omega arith)
  where
    by : (p q x y : ℕ) → p ≡ q → x ≡ y → words_from s p x ≡ words_from s q y
    by p q x y u v = rw (u, v)

pub name-on : (s row row' : List ℕ) (from n i b : ℕ) → i < n → b ≡ get_or s (from + i) 0 → row' ≡ set row (4 + i) b
    → sets row (4 + i) (words_from s (from + i) (n - i)) ≡ sets row' (4 + (i + 1)) (words_from s (from + (i + 1)) (n - (i + 1)))
name-on s row row' from n i b h e f =
    store-on row 4 i b (words_from s (from + i) (n - i)) (words_from s (from + (i + 1)) (n - (i + 1))) (words-at s from i n h ∙ ap (λ (x : ℕ). x ∷ words_from s (from + (i + 1)) (n - (i + 1))) (sym e))
    ∙ ap (λ (x : List ℕ). sets x (4 + (i + 1)) (words_from s (from + (i + 1)) (n - (i + 1)))) (sym f)

pub name-row-is : (s : List ℕ) (kind from n : ℕ) (row : List ℕ) → row ≡ set (set (replicate symbol_words 0) 0 kind) 3 n
    → sets row 4 (words_from s from n) ≡ symbol_row kind (words_from s from n)
unfolding symbol_row
name-row-is s kind from n row e =
    ap (λ (x : List ℕ). sets x 4 (words_from s from n)) (e ∙ ap (λ (y : ℕ). set (set (replicate symbol_words 0) 0 kind) 3 y) (sym (words-length s from n)))

-- ── zeros ──
pub zeros-at : (n i : ℕ) → i < n → zeros (n - i) ≡ 0 ∷ zeros (n - (i + 1))
zeros-at n i h = let e : n - i ≡ suc (n - (i + 1)) = omega arith in ap (λ (x : ℕ). zeros x) e

pub zeros-none : (n i : ℕ) → n ≤ i → zeros (n - i) ≡ []
zeros-none n i h = let e : n - i ≡ 0 = omega arith in ap (λ (x : ℕ). zeros x) e

-- ── literals ──
-- what is no character has no byte
bare_by : (b : Bool) (x y : Char) → (x.width ≡ 0 → x.byte ≡ 0) → (y.width ≡ 0 → y.byte ≡ 0) → (cond b x y).width ≡ 0 → (cond b x y).byte ≡ 0
bare_by true x y f g = f
bare_by false x y f g = g

bare-octals : (c d e : ℕ) → (octals c d e).width ≡ 0 → (octals c d e).byte ≡ 0
unfolding octals
bare-octals c d e =
    bare_by (octal d) _ _ (bare_by (leb c first_octal && octal e) _ _ (λ z. absurd (omega (arith, z))) (λ z. absurd (omega (arith, z)))) (λ z. absurd (omega (arith, z)))

bare-letters : (c : ℕ) → (letters c).width ≡ 0 → (letters c).byte ≡ 0
unfolding letters
bare-letters c =
    bare_by (eqb c 110) _ _ (λ z. absurd (omega (arith, z))) (
    bare_by (eqb c 114) _ _ (λ z. absurd (omega (arith, z))) (
    bare_by (eqb c 116) _ _ (λ z. absurd (omega (arith, z))) (
    bare_by (eqb c 39) _ _ (λ z. absurd (omega (arith, z))) (
    bare_by (eqb c 34) _ _ (λ z. absurd (omega (arith, z))) (
    bare_by (eqb c 91) _ _ (λ z. absurd (omega (arith, z))) (
    bare_by (eqb c 93) _ _ (λ z. absurd (omega (arith, z))) (
    bare_by (eqb c 92) _ _ (λ z. absurd (omega (arith, z))) (λ z. refl))))))))

pub bare : (l : List ℕ) → (char l).width ≡ 0 → (char l).byte ≡ 0
unfolding char four
bare l =
    bare_by (eqb (get_or l 0 256) 256) _ _ (λ z. refl)
    (bare_by (eqb (get_or l 0 256) 92) _ _
    (bare_by (octal (get_or l 1 256)) _ _ (bare-octals (get_or l 1 256) (get_or l 2 256) (get_or l 3 256)) (bare-letters (get_or l 1 256)))
    (λ z. absurd (omega (arith, z))))

spelled_by : (s : List ℕ) (z p x j : ℕ) → x ≡ suc j → spelled x z s p ≡ (char (drop p s)).byte ∷ spelled j z s (p + (char (drop p s)).width)
unfolding spelled literal_from
spelled_by s z p x j e = ap (λ (y : ℕ). spelled y z s p) e

pub spelled_at : (s : List ℕ) (z p i n b w : ℕ) → i < n → b ≡ (char (drop p s)).byte → w ≡ (char (drop p s)).width → spelled (n - i) z s p ≡ b ∷ spelled (n - (i + 1)) z s (p + w)
spelled_at s z p i n b w h e f =
    spelled_by s z p (n - i) (n - (i + 1)) (omega arith)
    ∙ ap (λ (x : ℕ). x ∷ spelled (n - (i + 1)) z s (p + (char (drop p s)).width)) (sym e)
    ∙ ap (λ (x : ℕ). b ∷ spelled (n - (i + 1)) z s (p + x)) (sym f)

pub spelled_none : (s : List ℕ) (z p i n : ℕ) → n ≤ i → spelled (n - i) z s p ≡ zeros z
unfolding spelled literal_from
spelled_none s z p i n h = let e : n - i ≡ 0 = omega arith in ap (λ (x : ℕ). spelled x z s p) e

-- ── classes ──
same-bit : (b : Bool) → from_bool b ≡ bit_of b
same-bit true = refl
same-bit false = refl

pub marks-at : (l : List Bool) (i b : ℕ) → i < length l → b ≡ from_bool (get_or l i false) → map bit_of (drop i l) ≡ b ∷ map bit_of (drop (i + 1) l)
marks-at l i b h e = rw add-one (ap (λ (x : List Bool). map bit_of x) (drop-cons l i false h) ∙ ap (λ (x : ℕ). x ∷ map bit_of (drop (suc i) l)) (sym (e ∙ same-bit (get_or l i false))))

pub marks-none : (l : List Bool) (i : ℕ) → length l ≤ i → map bit_of (drop i l) ≡ []
marks-none l i h = ap (λ (x : List Bool). map bit_of x) (drop_of_length-le l h)

-- ── what is still to be compared, i words behind ──
pub same_whole : (t : List ℕ) (at n : ℕ) (l m : List ℕ) → l ≡ m → same_bytes (words_from t at n) l ≡ same_bytes (words_from t (at + 0) (n - 0)) m
same_whole t at n l m e = by at (at + 0) n (n - 0) (omega arith) (omega arith)
  where
    by : (p q x y : ℕ) → p ≡ q → x ≡ y → same_bytes (words_from t p x) l ≡ same_bytes (words_from t q y) m
    by p q x y u v = rw (u, v, e)

module _ (t : List ℕ) (at i n x v : ℕ) (l m : List ℕ) (h : i < n) (e : l ≡ x ∷ m) (f : v ≡ get_or t (at + i) 0) where
  pub same-on : v ≡ x → same_bytes (words_from t (at + i) (n - i)) l ≡ same_bytes (words_from t (at + (i + 1)) (n - (i + 1))) m
  same-on g = ap (same_bytes (words_from t (at + i) (n - i))) e ∙ compared-on t at i n x m h (sym f ∙ g)

  pub same-no : (v ≡ x → ⊥) → same_bytes (words_from t (at + i) (n - i)) l ≡ false
  same-no g = ap (same_bytes (words_from t (at + i) (n - i))) e ∙ compared-not t at i n x m h (λ k. g (f ∙ k))

-- ── all words at once: v tells the list's ──
module _ (t : List ℕ) (at n : ℕ) (l : List ℕ) (v : ℕ → ℕ) (long : length l ≡ n) (tells : (k : ℕ) → k < n → v k ≡ get_or l k 0) where
  abbrev pub Same : ℕ → Type 0
  Same k = get_or t (at + k) 0 ≡ v k

  numbered : (k : ℕ) → k < length (range_with_len 0 n) → (k < n) × (get_or (range_with_len 0 n) k 0 ≡ k)
  numbered k h =
      let b : k < n = omega (arith, length-range_with_len 0 n) in
      (b, omega (arith, get_or-range_with_len 0 n k 0 b))

  itself : words_from l 0 n ≡ l
  itself = ap (words_from l 0) (sym long) ∙ words-all l

  pub same-by : (r : Bool) → MatchBool r (AllWithin Same (range_with_len 0 n) 0 (length (range_with_len 0 n)))
      ((k : ℕ) × (k < length (range_with_len 0 n)) × HoldsAt (λ x. Same x → ⊥) (range_with_len 0 n) k) → r ≡ same_bytes (words_from t at n) l
  same-by true h =
      let e : words_from t at n ≡ words_from l 0 n = words-ext t at l 0 n (λ k b. let m : k < length (range_with_len 0 n) = omega (arith, length-range_with_len 0 n) in
      subst Same (numbered k m).1 (h k 0 (omega arith) m) ∙ tells k b ∙ ap (λ (x : ℕ). get_or l x 0) (let f : k ≡ 0 + k = omega arith in f)) in
      sym (ap (same_bytes (words_from t at n)) (sym (e ∙ itself)) ∙ bytes-refl (words_from t at n))
  same-by false h = go (same_bytes (words_from t at n) l) refl
    where
      go : (x : Bool) → same_bytes (words_from t at n) l ≡ x → false ≡ x
      go false e = refl
      go true e =
          let b : h.0 < n = (numbered h.0 h.1).0 in
          let w = words-places t at l 0 n (bytes-sound _ _ e ∙ sym itself) h.0 b in
          absurd (h.2 0 (subst Same (sym (numbered h.0 h.1).1) (w ∙ ap (λ (x : ℕ). get_or l x 0) (let f : 0 + h.0 ≡ h.0 = omega arith in f) ∙ sym (tells h.0 b))))

pub mark-told : (l : List Bool) (k : ℕ) → k < length l → from_bool (get_or l k false) ≡ get_or (map bit_of l) k 0
mark-told [] k h = absurd (omega arith)
mark-told (b ∷ l) zero h = same-bit b
mark-told (b ∷ l) (suc k) h = mark-told l k (omega arith)

pub marks-long : (l : List Bool) → length (map bit_of l) ≡ length l
marks-long [] = refl
marks-long (b ∷ l) = ap suc (marks-long l)

-- ── what stands behind the characters of a literal ──
module _ (t : List ℕ) (at n i : ℕ) (s : List ℕ) (p : ℕ) (e : i ≡ n) where
  pub same-rest : same_bytes (words_from t (at + i) (256 - i)) (spelled (n - i) (256 - n) s p) ≡ same_bytes (words_from t (at + n) (256 - n)) (zeros (256 - n))
  same-rest = ap (same_bytes (words_from t (at + i) (256 - i))) (spelled_none s (256 - n) p i n (omega arith))
      ∙ ap (λ (x : ℕ). same_bytes (words_from t (at + x) (256 - x)) (zeros (256 - n))) e

  pub store-rest : sets t (at + i) (spelled (n - i) (256 - n) s p) ≡ sets t (at + n) (zeros (256 - n))
  store-rest = ap (sets t (at + i)) (spelled_none s (256 - n) p i n (omega arith)) ∙ ap (λ (x : ℕ). sets t (at + x) (zeros (256 - n))) e

-- ── a record, word by word ──
module _ (t : List ℕ) (b k n : ℕ) (w : List ℕ) where
  pub row-kind : (get_or t b 0 ≡ k → ⊥) → false ≡ row_is t b (k ∷ n ∷ w) terminal_key terminal_words
  row-kind e = row_first t b (k ∷ n ∷ w) terminal_key terminal_words e

  module _ (a : get_or t b 0 ≡ k) (long : length w ≡ 256) where
    -- the words from the second on
    behind : same_bytes (words_from t (b + 1 + 0) (257 - 0)) (n ∷ w) ≡ row_is t b (k ∷ n ∷ w) terminal_key terminal_words
    behind =
        ap (λ (p : ℕ). same_bytes (words_from t p 257) (n ∷ w)) (let g : b + 1 + 0 ≡ b + 1 = omega arith in g)
        ∙ ap (λ (l : List ℕ). same_bytes (words_from t (b + 1) 257) l)
        (sym (words-but-one k (n ∷ w)) ∙ ap (words_from (k ∷ n ∷ w) 1) (let g : length (n ∷ w) ≡ 257 = omega (arith, long) in g))
        ∙ row-rest t b (k ∷ n ∷ w) terminal_key terminal_words a

    pub row-length : (get_or t (b + 1) 0 ≡ n → ⊥) → false ≡ row_is t b (k ∷ n ∷ w) terminal_key terminal_words
    row-length e = sym (compared-not t (b + 1) 0 257 n w (omega arith) (λ g. e (sym (no_more t (b + 1)) ∙ g))) ∙ behind

    pub row-content : get_or t (b + 1) 0 ≡ n → same_bytes (words_from t (b + 2) 256) w ≡ row_is t b (k ∷ n ∷ w) terminal_key terminal_words
    row-content e =
        ap (λ (p : ℕ). same_bytes (words_from t p 256) w) (let g : b + 2 ≡ b + 1 + (0 + 1) = omega arith in g)
        ∙ sym (compared-on t (b + 1) 0 257 n w (omega arith) (no_more t (b + 1) ∙ e))
        ∙ behind

pub row-stored : (t t₁ t₂ t₃ : List ℕ) (b k n : ℕ) (w : List ℕ) → t₁ ≡ set t b k → t₂ ≡ set t₁ (b + 1) n → t₃ ≡ sets t₂ (b + 2) w → t₃ ≡ sets t b (k ∷ n ∷ w)
row-stored t t₁ t₂ t₃ b k n w e f h =
    h ∙ ap (λ (x : List ℕ). sets x (b + 2) w) (f ∙ ap (λ (x : List ℕ). set x (b + 1) n) e) ∙ here (b + 1) (suc b) (b + 2) (suc (suc b)) (omega arith) (omega arith)
  where
    here : (x x' y y' : ℕ) → x ≡ x' → y ≡ y' → sets (set (set t b k) x n) y w ≡ sets (set (set t b k) x' n) y' w
    here x x' y y' u v = rw (u, v)

pub leaf-added : (t : List ℕ) (b : ℕ) (l : Leaf) → Stands l → sets t b (words_of l) ≡ sets t b (words_from (words_of l) 0 terminal_words)
leaf-added t b l h = ap (sets t b) (sym (words-all (words_of l)) ∙ ap (words_from (words_of l) 0) (words_long l h))

pub grown : (row row' : List ℕ) (i b n : ℕ) → row' ≡ set row i b → length row ≡ n → length row' ≡ n
grown row row' i b n e h = ap length e ∙ length-set row i b ∙ h

-- ── expressions ──
three-stores : (t : List ℕ) (b k l r : ℕ) → set (set (set t b k) (b + 1) l) (b + 2) r ≡ sets t b (k ∷ l ∷ r ∷ [])
three-stores t b k l r = here (b + 1) (suc b) (b + 2) (suc (suc b)) (omega arith) (omega arith)
  where
    here : (x x' y y' : ℕ) → x ≡ x' → y ≡ y' → set (set (set t b k) x l) y r ≡ set (set (set t b k) x' l) y' r
    here x x' y y' f g = rw (f, g)

pub pushed-in : (t t₁ t₂ : List ℕ) (c k l r : ℕ) → c ≡ expression_count t → c < 1024
    → t₁ ≡ set (set (set t (expressions_at + expression_words * c) k) (expressions_at + expression_words * c + 1) l) (expressions_at + expression_words * c + 2) r
    → t₂ ≡ set t₁ 2 (c + 1) → t₂ ≡ pushed k l r t
unfolding pushed
pushed-in t t₁ t₂ c k l r e h p v =
    v
    ∙ ap (λ (x : List ℕ). set x 2 (c + 1)) (p ∙ three-stores t (expressions_at + expression_words * c) k l r)
    ∙ ap (λ (x : ℕ). set (sets t (expressions_at + expression_words * x) (k ∷ l ∷ r ∷ [])) 2 (x + 1)) e
    ∙ ap (λ (x : Bool). push_by x (get_or t 2 0) k l r t) (sym (lt-ltb (get_or t 2 0) 1024 (omega (arith, e))))

pub pushed-over : (t t₁ : List ℕ) (c k l r : ℕ) → c ≡ get_or t 2 0 → 1024 ≤ c → t₁ ≡ set t 2 1025 → t₁ ≡ pushed k l r t
unfolding pushed
pushed-over t t₁ c k l r e h p = p ∙ ap (λ (x : Bool). push_by x (get_or t 2 0) k l r t) (sym (le-ltb (get_or t 2 0) 1024 (omega (arith, e))))

pub bodied-in : (t t₁ : List ℕ) (c k : ℕ) → k < 64 → c ≡ expression_count t → t₁ ≡ set t (symbols_at + symbol_words * k + 1) c → t₁ ≡ bodied k t
unfolding bodied
bodied-in t t₁ c k h e p =
    let at : symbols_at + symbol_words * k + 1 ≡ body_at k = omega arith in
    p ∙ ap (λ (i : ℕ). set t i c) at ∙ ap (λ (x : ℕ). set t (body_at k) x) e ∙ ap (λ (x : Bool). bodied_by x k t) (sym (lt-ltb k 64 h))

pub bodied-out : (t : List ℕ) (k : ℕ) → 64 ≤ k → t ≡ bodied k t
unfolding bodied
bodied-out t k h = ap (λ (x : Bool). bodied_by x k t) (sym (le-ltb k 64 h))
