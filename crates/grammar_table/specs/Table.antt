-- A grammar in one flat run of words: what stands where, and the grammar that a table holds. Every reading is total: a table may hold anything.
-- Header: word 0 the number of symbols, 1 of terminals, 2 of expressions. Then records of fixed size:
--   symbol: kind (0 nonterminal, 1 lake), body (0 none, else 1 + its expression), rank, bytes of its name, the name's bytes;
--   terminal: kind (0 `.`, 1 literal, 2 class), bytes of the literal, then its bytes or the 256 marks of a class;
--   expression: kind, left, right, parts before wholes, rule after rule, numbered from 0.
-- Kinds of expressions: 0 terminal (left: its number), 1 symbol (left: its number), 2 sequence, 3 choice, 4 `?`, 5 `*`, 6 `+`, 7 `&`, 8 `!`.
-- Assumes nothing: these are definitions.
use Rattle.std.specs.Prelude.{ℕ, zero, suc, ◌+◌, ◌-◌, ◌*◌, Bool, true, false, cond, not, List, [], ◌∷◌, ◌++◌, get_or, eqb, ltb}
use Rattle.std.proofs.Math.Option.{Option, none, some}
use Rattle.read_tokens.specs.Token.{Symbol, Leaf, name, lake, any, literal, class}
use Rattle.grammar.specs.Exp.{Exp, sym, ter, seq, alt, opt, star, plus, ahead, never}
use Rattle.grammar.specs.Numbers.{Grammar}
use Rattle.grammar.specs.Parts.{Part, terminal, occurs, sequence, choice, option, repeat, repeat1, affirms, denies}

abbrev pub symbols_at : ℕ
symbols_at = 8

abbrev pub symbol_words : ℕ
symbol_words = 42

abbrev pub terminals_at : ℕ
terminals_at = 2696

abbrev pub terminal_words : ℕ
terminal_words = 258

abbrev pub expressions_at : ℕ
expressions_at = 19208

abbrev pub expression_words : ℕ
expression_words = 3

abbrev pub table_words : ℕ
table_words = 22280

-- records are told apart by their first word and those from here on: a symbol by its name, a terminal by its content
abbrev pub symbol_key : ℕ
symbol_key = 3

abbrev pub terminal_key : ℕ
terminal_key = 1

-- where the body of symbol r stands
abbrev pub body_at : ℕ → ℕ
body_at r = 9 + symbol_words * r

-- where the name of symbol r begins, and the content of terminal x: the bytes of a literal or the marks of a class
abbrev pub name_at : ℕ → ℕ
name_at r = symbols_at + symbol_words * r + 4

abbrev pub content_at : ℕ → ℕ
content_at x = terminals_at + terminal_words * x + 2

abbrev pub symbol_count : List ℕ → ℕ
symbol_count t = get_or t 0 0

abbrev pub terminal_count : List ℕ → ℕ
terminal_count t = get_or t 1 0

abbrev pub expression_count : List ℕ → ℕ
expression_count t = get_or t 2 0

-- word j of the record of symbol r, of terminal x, of expression e
abbrev pub symbol_word : List ℕ → ℕ → ℕ → ℕ
symbol_word t r j = get_or t (symbols_at + symbol_words * r + j) 0

abbrev pub terminal_word : List ℕ → ℕ → ℕ → ℕ
terminal_word t x j = get_or t (terminals_at + terminal_words * x + j) 0

abbrev pub expression_word : List ℕ → ℕ → ℕ → ℕ
expression_word t e j = get_or t (expressions_at + expression_words * e + j) 0

abbrev pub op_of : List ℕ → ℕ → ℕ
op_of t e = expression_word t e 0

abbrev pub left_of : List ℕ → ℕ → ℕ
left_of t e = expression_word t e 1

abbrev pub right_of : List ℕ → ℕ → ℕ
right_of t e = expression_word t e 2

-- n words from i on
unfoldable pub words_from : List ℕ → ℕ → ℕ → List ℕ
words_from t i zero = []
words_from t i (suc n) = get_or t i 0 ∷ words_from t (suc i) n

-- n marks from i on: any word but 0 is a mark
unfoldable pub marks_from : List ℕ → ℕ → ℕ → List Bool
marks_from t i zero = []
marks_from t i (suc n) = not (eqb (get_or t i 0) 0) ∷ marks_from t (suc i) n

abbrev pub symbol_by : ℕ → List ℕ → Symbol
symbol_by zero w = name w
symbol_by (suc k) w = lake w

unfoldable pub name_in : List ℕ → ℕ → Symbol
name_in t r = symbol_by (symbol_word t r 0) (words_from t (name_at r) (symbol_word t r 3))

-- a terminal's content by its kind
unfoldable pub leaf_by : ℕ → List ℕ → ℕ → Leaf
leaf_by zero t x = any
leaf_by (suc zero) t x = literal (words_from t (content_at x) (terminal_word t x 1))
leaf_by (suc (suc k)) t x = class (marks_from t (content_at x) 256)

unfoldable pub leaf_in : List ℕ → ℕ → Leaf
leaf_in t x = leaf_by (terminal_word t x 0) t x

-- the expression of kind k with the words l and r: leaf gives a terminal's content, part the expression with a number
unfoldable pub node_by : ℕ → ℕ → ℕ → (ℕ → Leaf) → (ℕ → Exp ℕ) → Exp ℕ
node_by zero l r leaf part = ter (leaf l)
node_by (suc zero) l r leaf part = sym l
node_by (suc (suc zero)) l r leaf part = seq (part l) (part r)
node_by (suc (suc (suc zero))) l r leaf part = alt (part l) (part r)
node_by (suc (suc (suc (suc zero)))) l r leaf part = opt (part l)
node_by (suc (suc (suc (suc (suc zero))))) l r leaf part = star (part l)
node_by (suc (suc (suc (suc (suc (suc zero)))))) l r leaf part = plus (part l)
node_by (suc (suc (suc (suc (suc (suc (suc zero))))))) l r leaf part = ahead (part l)
node_by (suc (suc (suc (suc (suc (suc (suc (suc k)))))))) l r leaf part = never (part l)

-- the tree of expression e, of at most so many levels; below them, and for a part that does not come before its whole, stands `.`
unfoldable pub tree_in : ℕ → List ℕ → ℕ → Exp ℕ
tree_in zero t e = ter any
tree_in (suc f) t e = node_by (op_of t e) (left_of t e) (right_of t e) (leaf_in t) (λ i. elim (ltb i e) [ true ↦ tree_in f t i | false ↦ ter any ])

-- parts come before wholes, so that e levels below e are enough
abbrev pub tree_at : List ℕ → ℕ → Exp ℕ
tree_at t e = tree_in (suc e) t e

abbrev pub body_by : List ℕ → ℕ → Option (Exp ℕ)
body_by t zero = none
body_by t (suc e) = some (tree_at t e)

-- the right side of symbol r, if it has a rule
unfoldable pub body_in : List ℕ → ℕ → Option (Exp ℕ)
body_in t r = body_by t (symbol_word t r 1)

-- f at 0, 1, .., below n
unfoldable pub up_to : {A : Type 0} → (ℕ → A) → ℕ → List A
up_to f zero = []
up_to f (suc n) = up_to f n ++ (f n ∷ [])

-- the grammar that a table holds
unfoldable pub grammar_in : List ℕ → Grammar
grammar_in t = record {
  names = up_to (name_in t) (symbol_count t);
  rights = up_to (body_in t) (symbol_count t);
  terminals = up_to (leaf_in t) (terminal_count
      t);
}

-- the expression with number e, its parts by number
unfoldable pub part_by : ℕ → ℕ → ℕ → Part
part_by zero l r = terminal l
part_by (suc zero) l r = occurs l
part_by (suc (suc zero)) l r = sequence l r
part_by (suc (suc (suc zero))) l r = choice l r
part_by (suc (suc (suc (suc zero)))) l r = option l
part_by (suc (suc (suc (suc (suc zero))))) l r = repeat l
part_by (suc (suc (suc (suc (suc (suc zero)))))) l r = repeat1 l
part_by (suc (suc (suc (suc (suc (suc (suc zero))))))) l r = affirms l
part_by (suc (suc (suc (suc (suc (suc (suc (suc k)))))))) l r = denies l

unfoldable pub part_in : List ℕ → ℕ → Part
part_in t e = part_by (op_of t e) (left_of t e) (right_of t e)

-- all of them, by number
unfoldable pub parts_in : List ℕ → List Part
parts_in t = up_to (part_in t) (expression_count t)

-- by symbol: 0 where there is no body, else 1 + its number
unfoldable pub roots_in : List ℕ → List ℕ
roots_in t = up_to (λ r. symbol_word t r 1) (symbol_count t)

-- the bodies of a table in which every symbol has one
unfoldable pub bodies_in : List ℕ → List (Exp ℕ)
bodies_in t = up_to (λ r. tree_at t (symbol_word t r 1 - 1)) (symbol_count t)
