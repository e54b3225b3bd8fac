-- A symbol and a terminal are read again from the words of their records; equal ones by their bytes are equal. Assumes nothing.
use Rattle.std.specs.Prelude.{ℕ, suc, ◌+◌, ◌≤◌, ◌<◌, ◌≡◌, refl, Bool, true, false, not, List, [], ◌∷◌, map, eqb, set, replicate}
use Rattle.std.proofs.Common.{sym, ◌∙◌, inl}
use Rattle.std.proofs.Math.Path.{ap}
use Rattle.std.proofs.lemmas.Bool.{false≢true}
use native.Mathlib.Omega.{arith}
use Rattle.std.proofs.Math.ListN.{length, get_or}
use Rattle.std.proofs.lemmas.List.{length-map}
use Rattle.read_tokens.specs.Token.{Symbol, name, lake, Leaf, any, literal, class}
use Rattle.grammar.specs.Same.{same_symbol}
use Rattle.grammar_table.specs.Table.{terminal_words, symbol_words, symbol_key, terminal_key, words_from, marks_from, symbol_by}
use Rattle.grammar_table.specs.laws.Words.{sets-out, sets-in, no_more}
use Rattle.grammar.specs.laws.Same.{bytes-sound, bytes-refl}
use Rattle.grammar_table.specs.laws.Rows.{At}
use Rattle.read_entries.specs.steps.Entries.{symbol_row, symbol_record, FitSymbol, symbol_from, leaf_row, bit_of, leaf_record, FitLeaf, leaf_kind, leaf_from}

-- ── runs of words and of marks ──
pub words-is : (t : List ℕ) (i : ℕ) (w : List ℕ) → ((j : ℕ) → j < length w → get_or t (i + j) 0 ≡ get_or w j 0) → words_from t i (length w) ≡ w
unfolding words_from
words-is t i [] h = refl
words-is t i (b ∷ w) h =
    let e : get_or t i 0 ≡ b = sym (no_more t i) ∙ h 0 (omega arith) in
    let f : words_from t (suc i) (length w) ≡ w = words-is t (suc i) w (λ j k. ap (λ (x : ℕ). get_or t x 0) (let g : suc i + j ≡ i + suc j = omega arith in g) ∙ h (suc j) (omega arith)) in
    cc (e, f)

mark_of : (b : Bool) → not (eqb (bit_of b) 0) ≡ b
mark_of true = refl
mark_of false = refl

pub marks-is : (t : List ℕ) (i : ℕ) (l : List Bool) → ((j : ℕ) → j < length l → get_or t (i + j) 0 ≡ get_or (map bit_of l) j 0) → marks_from t i (length l) ≡ l
unfolding marks_from
marks-is t i [] h = refl
marks-is t i (b ∷ l) h =
    let e : not (eqb (get_or t i 0) 0) ≡ b = ap (λ (x : ℕ). not (eqb x 0)) (sym (no_more t i) ∙ h 0 (omega arith)) ∙ mark_of b in
    let f : marks_from t (suc i) (length l) ≡ l = marks-is t (suc i) l (λ j k. ap (λ (x : ℕ). get_or t x 0) (let g : suc i + j ≡ i + suc j = omega arith in g) ∙ h (suc j) (omega arith)) in
    cc (e, f)

-- ── symbols ──
module _ (k : ℕ) (w : List ℕ) (fit : length w ≤ 38) where
  symbol-kind : get_or (symbol_row k w) 0 0 ≡ k
  unfolding symbol_row
  symbol-kind = sets-out w (set (set (replicate symbol_words 0) 0 k) 3 (length w)) 4 0 (inl (omega arith))

  symbol-size : get_or (symbol_row k w) 3 0 ≡ length w
  unfolding symbol_row
  symbol-size = sets-out w (set (set (replicate symbol_words 0) 0 k) 3 (length w)) 4 3 (inl (omega arith))

  symbol-bytes : (j : ℕ) → j < length w → get_or (symbol_row k w) (4 + j) 0 ≡ get_or w j 0
  unfolding symbol_row
  symbol-bytes j h = sets-in w (set (set (replicate symbol_words 0) 0 k) 3 (length w)) 4 j h (omega arith)

  symbol-back : (t : List ℕ) (b : ℕ) → At symbol_key symbol_words t b (symbol_row k w) → symbol_from t b ≡ symbol_by k w
  unfolding symbol_from
  symbol-back t b a =
      let e : get_or t (b + 0) 0 ≡ k = no_more t b ∙ a.first ∙ symbol-kind in
      let f : get_or t (b + 3) 0 ≡ length w = a.others 3 (omega arith) (omega arith) ∙ symbol-size in
      let g : words_from t (b + 4) (length w) ≡ w =
      words-is t (b + 4) w (λ j h. ap (λ (x : ℕ). get_or t x 0) (let p : b + 4 + j ≡ b + (4 + j) = omega arith in p) ∙ a.others (4 + j) (omega arith) (omega arith) ∙ symbol-bytes j h)
      in
      ap (λ (x : ℕ). symbol_by x (words_from t (b + 4) (get_or t (b + 3) 0))) e ∙ ap (λ (x : ℕ). symbol_by k (words_from t (b + 4) x)) f ∙ ap (symbol_by k) g

pub symbol-read : (t : List ℕ) (b : ℕ) (h : Symbol) → At symbol_key symbol_words t b (symbol_record h) → FitSymbol h → symbol_from t b ≡ h
unfolding symbol_record FitSymbol
symbol-read t b (name w) a f = symbol-back 0 w f t b a
symbol-read t b (lake w) a f = symbol-back 1 w f t b a

-- a record says how long its name is, also of a name that is too long
row-size : (k : ℕ) (w : List ℕ) → get_or (symbol_row k w) 3 0 ≡ length w
unfolding symbol_row
row-size k w = sets-out w (set (set (replicate symbol_words 0) 0 k) 3 (length w)) 4 3 (inl (omega arith))

fit-by : (h : Symbol) (w : List ℕ) → FitSymbol h → get_or (symbol_record h) 3 0 ≡ length w → length w ≤ 38
unfolding FitSymbol symbol_record
fit-by (name v) w f e = omega (arith, row-size 0 v)
fit-by (lake v) w f e = omega (arith, row-size 1 v)

pub symbol-alike : (t : List ℕ) (x : Symbol) (b : ℕ) (y : Symbol) → At symbol_key symbol_words t b (symbol_record x) → At symbol_key symbol_words t b (symbol_record y) → FitSymbol y → FitSymbol x
unfolding FitSymbol symbol_record
symbol-alike t (name w) b y p q f = fit-by y w f (sym (q.others 3 (omega arith) (omega arith)) ∙ p.others 3 (omega arith) (omega arith) ∙ row-size 0 w)
symbol-alike t (lake w) b y p q f = fit-by y w f (sym (q.others 3 (omega arith) (omega arith)) ∙ p.others 3 (omega arith) (omega arith) ∙ row-size 1 w)

pub symbol-sound : (x y : Symbol) → same_symbol x y ≡ true → x ≡ y
unfolding same_symbol
symbol-sound (name v) (name w) e = ap name (bytes-sound v w e)
symbol-sound (name v) (lake w) e = absurd (false≢true e)
symbol-sound (lake v) (name w) e = absurd (false≢true e)
symbol-sound (lake v) (lake w) e = ap lake (bytes-sound v w e)

pub symbol-refl : (x : Symbol) → same_symbol x x ≡ true
unfolding same_symbol
symbol-refl (name v) = bytes-refl v
symbol-refl (lake v) = bytes-refl v

-- ── terminals ──
module _ (k n : ℕ) (w : List ℕ) (fit : length w ≤ 256) where
  leaf-kind : get_or (leaf_row k n w) 0 0 ≡ k
  unfolding leaf_row
  leaf-kind = sets-out w (set (set (replicate terminal_words 0) 0 k) 1 n) 2 0 (inl (omega arith))

  leaf-size : get_or (leaf_row k n w) 1 0 ≡ n
  unfolding leaf_row
  leaf-size = sets-out w (set (set (replicate terminal_words 0) 0 k) 1 n) 2 1 (inl (omega arith))

  leaf-words : (j : ℕ) → j < length w → get_or (leaf_row k n w) (2 + j) 0 ≡ get_or w j 0
  unfolding leaf_row
  leaf-words j h = sets-in w (set (set (replicate terminal_words 0) 0 k) 1 n) 2 j h (omega arith)

  module _ (t : List ℕ) (b : ℕ) (a : At terminal_key terminal_words t b (leaf_row k n w)) where
    there-kind : get_or t (b + 0) 0 ≡ k
    there-kind = no_more t b ∙ a.first ∙ leaf-kind

    there-size : get_or t (b + 1) 0 ≡ n
    there-size = a.others 1 (omega arith) (omega arith) ∙ leaf-size

    there-words : (j : ℕ) → j < length w → get_or t (b + 2 + j) 0 ≡ get_or w j 0
    there-words j h = ap (λ (x : ℕ). get_or t x 0) (let p : b + 2 + j ≡ b + (2 + j) = omega arith in p) ∙ a.others (2 + j) (omega arith) (omega arith) ∙ leaf-words j h

pub leaf-read : (t : List ℕ) (b : ℕ) (x : Leaf) → At terminal_key terminal_words t b (leaf_record x) → FitLeaf x → leaf_from t b ≡ x
unfolding leaf_record FitLeaf leaf_from leaf_kind
leaf-read t b any a f = ap (λ (k : ℕ). leaf_kind k t b) (no_more t b ∙ a.first)
leaf-read t b (literal w) a f =
    ap (λ (k : ℕ). leaf_kind k t b) (there-kind 1 (length w) w f t b a)
    ∙ ap (λ (n : ℕ). literal (words_from t (b + 2) n)) (there-size 1 (length w) w f t b a)
    ∙ ap literal (words-is t (b + 2) w (there-words 1 (length w) w f t b a))
leaf-read t b (class l) a f =
    let g : length (map bit_of l) ≤ 256 = omega (arith, length-map l bit_of) in
    ap (λ (k : ℕ). leaf_kind k t b) (there-kind 2 256 (map bit_of l) g t b a)
    ∙ ap (λ (n : ℕ). class (marks_from t (b + 2) n)) (sym f)
    ∙ ap class (marks-is t (b + 2) l (λ j h. there-words 2 256 (map bit_of l) g t b a j (omega (arith, length-map l bit_of))))
