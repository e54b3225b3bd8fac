-- Names, literals and classes, a word at a time. Assumes nothing.
use Prim.Native.Nat.{ℕ, zero, suc, ◌+◌, ◌-◌, ◌*◌, ◌%◌, ◌≤◌, ◌<◌}
use Rattle.std.specs.Prelude.{◌≡◌, refl, Bool, cond, eqb, length, get_or, Option as Maybe, Some, None}
use Rattle.std.proofs.Math.Path.{sym, ap}
use Rattle.std.proofs.Common.{◌∙◌, subst, add-one, eq-eqb, ne_eqb}
use Rattle.std.proofs.Math.Bool.{true, false, not}
use mathlib.Core.List.{List, [], ◌∷◌, ◌++◌, map}
use Rattle.std.proofs.Math.Option.{Option, none, some}
use native.Mathlib.Omega.{arith}
use Rattle.read_tokens.specs.Chars.{Range, range}
use Rattle.grammar_table.specs.Table.{words_from, marks_from}
use Rattle.grammar_table.specs.laws.Leaves.{words_more}
use Rattle.write_rules.specs.Writing.{lit_char, lit_chars, class_char, runs, run_text, runs_text}
use Rattle.write_leaves.specs.steps.Printed.{low, open_of, rest_of}

module _ (t : List ℕ) (i n j : ℕ) where
  next : j < n → words_from t (i + j) (n - j) ≡ get_or t (i + j) 0 ∷ words_from t (i + (j + 1)) (n - (j + 1))
  next h =
      let a : i + j + 1 ≡ i + (j + 1) = omega arith in
      let b : n - j - 1 ≡ n - (j + 1) = omega arith in
      words_more t (i + j) (n - j) (omega arith) ∙ ap (λ (x : ℕ). get_or t (i + j) 0 ∷ words_from t x (n - j - 1)) a ∙ ap (λ (x : ℕ). get_or t (i + j) 0 ∷ words_from t (i + (j + 1)) x) b

  pub name-more : j < n → map low (words_from t (i + j) (n - j)) ≡ (low (get_or t (i + j) 0) ∷ []) ++ map low (words_from t (i + (j + 1)) (n - (j + 1)))
  name-more h = ap (map low) (next h)

  pub chars-more : j < n → lit_chars (map low (words_from t (i + j) (n - j))) ≡ lit_char (low (get_or t (i + j) 0)) ++ lit_chars (map low (words_from t (i + (j + 1)) (n - (j + 1))))
  unfolding lit_chars
  chars-more h = ap (λ (l : List ℕ). lit_chars (map low l)) (next h)

  gone : n ≤ j → words_from t (i + j) (n - j) ≡ []
  unfolding words_from
  gone h = let e : n - j ≡ 0 = omega arith in ap (words_from t (i + j)) e

  pub name-end : n ≤ j → map low (words_from t (i + j) (n - j)) ≡ []
  name-end h = ap (map low) (gone h)

  pub chars-end : n ≤ j → lit_chars (map low (words_from t (i + j) (n - j))) ≡ []
  unfolding lit_chars
  chars-end h = ap (λ (l : List ℕ). lit_chars (map low l)) (gone h)

pub words-start : (t : List ℕ) (i n : ℕ) → words_from t (i + 0) (n - 0) ≡ words_from t i n
words-start t i n = let a : i + 0 ≡ i = omega arith in let b : n - 0 ≡ n = omega arith in ap (λ (x : ℕ). words_from t x (n - 0)) a ∙ ap (words_from t i) b

-- ── classes ──
module _ (t : List ℕ) (i b : ℕ) (h : b < 256) where
  mark : Bool
  mark = not (eqb (get_or t (i + b) 0) 0)

  split : marks_from t (i + b) (256 - b) ≡ mark ∷ marks_from t (i + (b + 1)) (256 - (b + 1))
  unfolding marks_from mark
  split =
      let a : 256 - b ≡ suc (256 - (b + 1)) = omega arith in
      let c : suc (i + b) ≡ i + (b + 1) = omega arith in
      ap (marks_from t (i + b)) a ∙ ap (λ (x : ℕ). mark ∷ marks_from t x (256 - (b + 1))) c

  after : List Bool
  after = marks_from t (i + (b + 1)) (256 - (b + 1))

  by-mark : (run : Maybe ℕ) (m : Bool) → mark ≡ m → rest_of t i run b ≡ runs_text (runs (open_of run b) b (m ∷ after))
  unfolding after
  by-mark run m e = ap (λ (l : List Bool). runs_text (runs (open_of run b) b l)) split ∙ ap (λ (x : Bool). runs_text (runs (open_of run b) b (x ∷ after))) e

  is_set : (get_or t (i + b) 0 ≡ 0 → ⊥) → mark ≡ true
  unfolding mark
  is_set f = ap not (ne_eqb (get_or t (i + b) 0) 0 f)

  is-clear : get_or t (i + b) 0 ≡ 0 → mark ≡ false
  unfolding mark
  is-clear e = ap not (eq-eqb (get_or t (i + b) 0) 0 e)

  -- a marked byte opens a run, or makes the run one longer
  pub opens : (get_or t (i + b) 0 ≡ 0 → ⊥) → rest_of t i None b ≡ rest_of t i (Some b) (b + 1)
  unfolding runs after
  opens f =
      let x : b ≡ b + 1 - 1 = omega arith in
      by-mark None true (is_set f)
      ∙ ap (λ (k : ℕ). runs_text (runs (some (range b b)) k after)) (sym (add-one b))
      ∙ ap (λ (y : ℕ). runs_text (runs (some (range b y)) (b + 1) after)) x

  pub goes_on : (lo : ℕ) → (get_or t (i + b) 0 ≡ 0 → ⊥) → rest_of t i (Some lo) b ≡ rest_of t i (Some lo) (b + 1)
  unfolding runs after
  goes_on lo f =
      let x : b ≡ b + 1 - 1 = omega arith in
      by-mark (Some lo) true (is_set f)
      ∙ ap (λ (k : ℕ). runs_text (runs (some (range lo b)) k after)) (sym (add-one b))
      ∙ ap (λ (y : ℕ). runs_text (runs (some (range lo y)) (b + 1) after)) x

  -- any other byte closes the open run
  pub stays : get_or t (i + b) 0 ≡ 0 → rest_of t i None b ≡ rest_of t i None (b + 1)
  unfolding runs after
  stays f = by-mark None false (is-clear f) ∙ ap (λ (k : ℕ). runs_text (runs none k after)) (sym (add-one b))

  pub closes : (lo : ℕ) → get_or t (i + b) 0 ≡ 0 → rest_of t i (Some lo) b ≡ run_text (range lo (b - 1)) ++ rest_of t i None (b + 1)
  unfolding runs runs_text after
  closes lo f =
      by-mark (Some lo) false (is-clear f)
      ∙ ap (λ (k : ℕ). run_text (range lo (b - 1)) ++ runs_text (runs none k after)) (sym (add-one b))

module _ (t : List ℕ) (i b : ℕ) (h : 256 ≤ b) where
  out_of : marks_from t (i + b) (256 - b) ≡ []
  unfolding marks_from
  out_of = let e : 256 - b ≡ 0 = omega arith in ap (marks_from t (i + b)) e

  pub class-end : rest_of t i None b ≡ []
  unfolding runs runs_text
  class-end = ap (λ (l : List Bool). runs_text (runs none b l)) out_of

  pub class-last : (lo : ℕ) → rest_of t i (Some lo) b ≡ run_text (range lo (b - 1)) ++ []
  unfolding runs runs_text
  class-last lo = ap (λ (l : List Bool). runs_text (runs (some (range lo (b - 1))) b l)) out_of

pub class-start : (t : List ℕ) (i : ℕ) → rest_of t i None 0 ≡ runs_text (runs none 0 (marks_from t i 256))
class-start t i = let a : i + 0 ≡ i = omega arith in ap (λ (x : ℕ). runs_text (runs none 0 (marks_from t x 256))) a

-- a run of one byte, and of more
pub one_byte : (a b : ℕ) → a ≡ b → class_char a ≡ run_text (range a b)
unfolding run_text
one_byte a b e = sym (rw (eq-eqb a b e))

pub more_bytes : (a b : ℕ) → (a ≡ b → ⊥) → class_char a ++ ((45 ∷ []) ++ class_char b) ≡ run_text (range a b)
unfolding run_text
more_bytes a b f = sym (rw (ne_eqb a b f))
