-- A symbol and a terminal as the words of a record of the table (grammar, Table.antt), and what is added to the table by one store.
-- Assumes nothing: these are definitions.
use Rattle.std.specs.Prelude.{Option, Some, None, ℕ, zero, suc, ◌+◌, ◌*◌, ◌≤◌, ◌≡◌, Bool, true, false, List, [], ◌∷◌, map, ltb, length, get_or, set, replicate}
use Rattle.std.proofs.lemmas.List.Edits.{sets}
use Rattle.read_tokens.specs.declared.Mode.{Mode}
use Rattle.read_tokens.specs.declared.Kind.{Kind}
use Rattle.read_tokens.specs.declared.Kind.TheVariants.{Lake, Literal, Class, Amp, Bang, Query, Asterisk, Cross}
use Rattle.read_tokens.specs.Token.{Symbol, name, lake, Leaf, any, literal, class}
use Rattle.read_tokens.specs.steps.Code.{literal_from, class_at}
use Rattle.grammar_table.specs.Table.{expressions_at, expression_words, terminal_words, symbol_words, body_at, words_from, marks_from, symbol_by}
use Rattle.grammar_table.specs.steps.Rows.{cap}

-- ── symbols ──
-- kind, no body, no rank, and the name with its length
unfoldable pub symbol_row : ℕ → List ℕ → List ℕ
symbol_row k w = sets (set (set (replicate symbol_words 0) 0 k) 3 (length w)) 4 w

unfoldable pub symbol_record : Symbol → List ℕ
symbol_record (name w) = symbol_row 0 w
symbol_record (lake w) = symbol_row 1 w

-- "name, bytes: 38" is the larger bound of the two modes
unfoldable pub FitSymbol : Symbol → Type 0
FitSymbol (name w) = length w ≤ 38
FitSymbol (lake w) = length w ≤ 38

-- the symbol that the words from b on say
unfoldable pub symbol_from : List ℕ → ℕ → Symbol
symbol_from t b = symbol_by (get_or t (b + 0) 0) (words_from t (b + 4) (get_or t (b + 3) 0))

-- the record of the symbol token that starts at a place: a lake's name stands behind its `<`
abbrev pub lake_of : Kind → ℕ
lake_of Lake = 1
lake_of _ = 0

abbrev pub symbol_at : List ℕ → Kind → ℕ → ℕ → List ℕ
symbol_at s kind start size = symbol_row (lake_of kind) (words_from s (start + lake_of kind) size)

-- ── terminals ──
unfoldable pub leaf_row : ℕ → ℕ → List ℕ → List ℕ
leaf_row k n w = sets (set (set (replicate terminal_words 0) 0 k) 1 n) 2 w

abbrev pub bit_of : Bool → ℕ
bit_of true = 1
bit_of false = 0

unfoldable pub leaf_record : Leaf → List ℕ
leaf_record any = replicate terminal_words 0
leaf_record (literal w) = leaf_row 1 (length w) w
leaf_record (class l) = leaf_row 2 256 (map bit_of l)

unfoldable pub FitLeaf : Leaf → Type 0
FitLeaf any = Unit {0}
FitLeaf (literal w) = length w ≤ 256
FitLeaf (class l) = length l ≡ 256

unfoldable pub leaf_kind : ℕ → List ℕ → ℕ → Leaf
leaf_kind zero t b = any
leaf_kind (suc zero) t b = literal (words_from t (b + 2) (get_or t (b + 1) 0))
leaf_kind (suc (suc k)) t b = class (marks_from t (b + 2) 256)

unfoldable pub leaf_from : List ℕ → ℕ → Leaf
leaf_from t b = leaf_kind (get_or t (b + 0) 0) t b

-- the record of the terminal's token of this kind that starts at a place
unfoldable pub leaf_at : Mode → List ℕ → Kind → ℕ → ℕ → List ℕ
leaf_at m s Literal start size = leaf_row 1 (cap 256 size) (literal_from (cap 256 size) s (suc start))
leaf_at m s Class start size = leaf_row 2 256 (map bit_of (class_at m s start).marks)
leaf_at m s _ start size = replicate terminal_words 0

-- ── expressions ──
abbrev pub push_by : Bool → ℕ → ℕ → ℕ → ℕ → List ℕ → List ℕ
push_by true c k l r t = set (sets t (expressions_at + expression_words * c) (k ∷ l ∷ r ∷ [])) 2 (c + 1)
push_by false c k l r t = set t 2 1025

-- one expression more: at most 1,024 are kept, 1,025 says that there are more
unfoldable pub pushed : ℕ → ℕ → ℕ → List ℕ → List ℕ
pushed k l r t = push_by (ltb (get_or t 2 0) 1024) (get_or t 2 0) k l r t

abbrev pub bodied_by : Bool → ℕ → List ℕ → List ℕ
bodied_by true k t = set t (body_at k) (get_or t 2 0)
bodied_by false k t = t

-- the last expression is the body of symbol k
unfoldable pub bodied : ℕ → List ℕ → List ℕ
bodied k t = bodied_by (ltb k 64) k t

-- kinds of expressions by the kind of their token
abbrev pub prefix_op : Kind → Option ℕ
prefix_op Amp = Some 7
prefix_op Bang = Some 8
prefix_op _ = None

abbrev pub suffix_op : Kind → Option ℕ
suffix_op Query = Some 4
suffix_op Asterisk = Some 5
suffix_op Cross = Some 6
suffix_op _ = None
