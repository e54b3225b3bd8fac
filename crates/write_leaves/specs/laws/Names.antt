-- The text of a terminal and of a symbol by the words that code has read. Assumes nothing.
use Rattle.std.specs.Prelude.{ℕ, zero, suc, ◌+◌, ◌*◌, ◌≤◌, ◌<◌, ◌≡◌, Bool, List, [], ◌∷◌, ◌++◌, map, get_or}
use Rattle.std.proofs.Math.Path.{refl, ap}
use Rattle.std.proofs.Common.{sym, ◌∙◌, arith}
use Rattle.std.proofs.Math.Bool.{true, false}
use Rattle.std.proofs.Math.Option.{none}
use Rattle.read_tokens.specs.Token.{Symbol, Leaf, name, lake, any, literal, class}
use Rattle.grammar.specs.Lakes.{plain_name}
use Rattle.grammar_table.specs.Table.{terminals_at, terminal_words, symbols_at, symbol_words, terminal_word, symbol_word, symbol_by, words_from, marks_from, leaf_in}
use Rattle.grammar_table.specs.laws.Leaves.{is_any, is-literal, is-class}
use Rattle.write_rules.specs.Writing.{lit_chars, runs, runs_text, leaf_text, symbol_text}
use Rattle.write_leaves.specs.steps.Printed.{low, low_leaf, called_by, called}

module _ (t : List ℕ) (x k : ℕ) (kind : k ≡ terminal_word t x 0) where
  pub any-text : k ≡ 0 → 46 ∷ [] ≡ leaf_text (low_leaf (leaf_in t x))
  unfolding leaf_text
  any-text z = ap (λ (l : Leaf). leaf_text (low_leaf l)) (is_any t x k kind z)

  pub literal-text : (n : ℕ) → n ≡ terminal_word t x 1 → k ≡ 1 → (39 ∷ []) ++ (lit_chars (map low (words_from t (terminals_at + terminal_words * x + 2) n)) ++ (39 ∷ [])) ≡ leaf_text (low_leaf (leaf_in t x))
  unfolding leaf_text
  literal-text n g z = ap (λ (l : Leaf). leaf_text (low_leaf l)) (is-literal t x k kind n g z)

  pub class-text : (k ≡ 0 → ⊥) → (k ≡ 1 → ⊥) → (91 ∷ []) ++ (runs_text (runs none 0 (marks_from t (terminals_at + terminal_words * x + 2) 256)) ++ (93 ∷ [])) ≡ leaf_text (low_leaf (leaf_in t x))
  unfolding leaf_text
  class-text f g = ap (λ (l : Leaf). leaf_text (low_leaf l)) (is-class t x k kind f g)

module _ (t : List ℕ) (r k n : ℕ) (e : k ≡ symbol_word t r 0) (g : n ≡ symbol_word t r 3) where
  abbrev bytes : List ℕ
  bytes = map low (words_from t (symbols_at + symbol_words * r + 4) n)

  words : (p : Bool) → called_by p (symbol_by k bytes) ≡ called p t r
  unfolding called
  words p =
      ap (λ (j : ℕ). called_by p (symbol_by j bytes)) e
      ∙ ap (λ (m : ℕ). called_by p (symbol_by (symbol_word t r 0) (map low (words_from t (symbols_at + symbol_words * r + 4) m)))) g

  pub name-text : (p : Bool) → k ≡ 0 → bytes ≡ symbol_text (called p t r)
  unfolding symbol_text plain_name
  name-text p z = bare p ∙ ap (λ (j : ℕ). symbol_text (called_by p (symbol_by j bytes))) (sym z) ∙ ap symbol_text (words p)
    where
      bare : (q : Bool) → bytes ≡ symbol_text (called_by q (name bytes))
      bare true = refl
      bare false = refl

  a-lake : (j : ℕ) → (j ≡ 0 → ⊥) → (w : List ℕ) → lake w ≡ symbol_by j w
  a-lake zero f w = absurd (f refl)
  a-lake (suc j) f w = refl

  pub plain-text : (p : Bool) → p ≡ true → (k ≡ 0 → ⊥) → (108 ∷ 97 ∷ 107 ∷ 101 ∷ 95 ∷ 95 ∷ []) ++ bytes ≡ symbol_text (called p t r)
  unfolding symbol_text plain_name
  plain-text p z f = ap (λ (q : Bool). symbol_text (called_by q (lake bytes))) (sym z) ∙ ap (λ (h : Symbol). symbol_text (called_by p h)) (a-lake k f bytes) ∙ ap symbol_text (words p)

  pub lake-text : (p : Bool) → p ≡ false → (k ≡ 0 → ⊥) → (60 ∷ []) ++ (bytes ++ (62 ∷ [])) ≡ symbol_text (called p t r)
  unfolding symbol_text
  lake-text p z f = ap (λ (q : Bool). symbol_text (called_by q (lake bytes))) (sym z) ∙ ap (λ (h : Symbol). symbol_text (called_by p h)) (a-lake k f bytes) ∙ ap symbol_text (words p)
