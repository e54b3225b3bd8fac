-- Words and records compared one by one. Assumes nothing.
use Rattle.std.specs.Prelude.{ℕ, zero, suc, ◌+◌, ◌-◌, ◌≤◌, ◌<◌, ◌≡◌, refl, Bool, true, false, ◌&&◌, List, [], ◌∷◌, length, get_or}
use Rattle.std.proofs.Common.{sym, ap, ◌∙◌, eq-eqb, ne_eqb}
use Rattle.grammar.specs.Same.{same_bytes}
use Rattle.grammar_table.specs.Table.{words_from}
use Rattle.grammar_table.specs.steps.Rows.{row_is}
use Rattle.grammar_table.specs.laws.Words.{words-at, words-none}

-- ── words ──
same-cons : (x y : ℕ) (s t : List ℕ) → x ≡ y → same_bytes (x ∷ s) (y ∷ t) ≡ same_bytes s t
unfolding same_bytes
same-cons x y s t e = ap (λ (b : Bool). b && same_bytes s t) (eq-eqb x y e)

same_not : (x y : ℕ) (s t : List ℕ) → (x ≡ y → ⊥) → same_bytes (x ∷ s) (y ∷ t) ≡ false
unfolding same_bytes
same_not x y s t e = ap (λ (b : Bool). b && same_bytes s t) (ne_eqb x y e)

-- words of t from `at` on with a list of which x is the next
module _ (t : List ℕ) (at i n x : ℕ) (l : List ℕ) (h : i < n) where
  pub compared-on : get_or t (at + i) 0 ≡ x → same_bytes (words_from t (at + i) (n - i)) (x ∷ l) ≡ same_bytes (words_from t (at + (i + 1)) (n - (i + 1))) l
  compared-on e = rw (words-at t at i n h) (same-cons (get_or t (at + i) 0) x (words_from t (at + (i + 1)) (n - (i + 1))) l e)

  pub compared-not : (get_or t (at + i) 0 ≡ x → ⊥) → same_bytes (words_from t (at + i) (n - i)) (x ∷ l) ≡ false
  compared-not e = rw (words-at t at i n h) (same_not (get_or t (at + i) 0) x (words_from t (at + (i + 1)) (n - (i + 1))) l e)

pub compared-none : (t : List ℕ) (i k n : ℕ) → n ≤ k → same_bytes (words_from t i (n - k)) [] ≡ true
unfolding same_bytes
compared-none t i k n h = ap (λ (l : List ℕ). same_bytes l []) (words-none t i k n h)

-- ── records ──
pub row_first : (t : List ℕ) (b : ℕ) (rec : List ℕ) (o w : ℕ) → (get_or t b 0 ≡ get_or rec 0 0 → ⊥) → false ≡ row_is t b rec o w
unfolding row_is
row_first t b rec o w e = ap (λ (x : Bool). x && same_bytes (words_from t (b + o) (w - o)) (words_from rec o (w - o))) (sym (ne_eqb (get_or t b 0) (get_or rec 0 0) e))

pub row-rest : (t : List ℕ) (b : ℕ) (rec : List ℕ) (o w : ℕ) → get_or t b 0 ≡ get_or rec 0 0
    → same_bytes (words_from t (b + o) (w - o)) (words_from rec o (w - o)) ≡ row_is t b rec o w
unfolding row_is
row-rest t b rec o w e = ap (λ (x : Bool). x && same_bytes (words_from t (b + o) (w - o)) (words_from rec o (w - o))) (sym (eq-eqb (get_or t b 0) (get_or rec 0 0) e))

words-behind : (x : ℕ) (l : List ℕ) (i n : ℕ) → words_from (x ∷ l) (suc i) n ≡ words_from l i n
unfolding words_from
words-behind x l i zero = refl
words-behind x l i (suc n) = ap (λ (m : List ℕ). get_or l i 0 ∷ m) (words-behind x l (suc i) n)

-- all words of a list
pub words-all : (l : List ℕ) → words_from l 0 (length l) ≡ l
unfolding words_from
words-all [] = refl
words-all (x ∷ l) = ap (λ (m : List ℕ). x ∷ m) (words-behind x l 0 (length l) ∙ words-all l)

pub words-but-one : (x : ℕ) (l : List ℕ) → words_from (x ∷ l) 1 (length l) ≡ l
words-but-one x l = words-behind x l 0 (length l) ∙ words-all l
