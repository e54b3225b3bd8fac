-- The table of refusals, row by row, in its own words: where a row holds (01, Refusal numbers, in order of check). In which order a call looks at them
-- is said in Checks.antt. Assumes nothing: these are definitions.
use Rattle.std.specs.Prelude.{ℕ, zero, suc, min, ◌≤◌, ◌<◌, ◌≡◌, Bool, true, false, List, [], ◌∷◌, length, get_or}
use Rattle.read_tokens.specs.declared.Mode.{Mode}
use Rattle.read_tokens.specs.Token.{Symbol, Lexeme, name, symbol}
use Rattle.read_tokens.specs.Tokens.{lexemes}
use Rattle.read_tokens.specs.Bounds.{text_bound, symbol_bound, terminal_bound, expression_bound, plain_bound, input_bound}
use Rattle.grammar.specs.Exp.{Rule, sym}
use Rattle.grammar.specs.Numbers.{symbols_of, terminals_of, expressions_of}
use Rattle.read_syntax.specs.Machine.{syntax, wide, place_of}
use Rattle.read_syntax.specs.Offence.{Judges}
use Rattle.read_syntax.specs.Grammar.{GrammarOf}
use Rattle.read_syntax.specs.Reading.{before, reserved}
use Rattle.lake_plain.specs.Plain.{sizes}
use Rattle.lake_plain.specs.Loops.{SmallestLoop}
use Rattle.match_meaning.specs.Meaning.{Node, Derives}
use Rattle.match_list.specs.Nodes.{room_of}
use Rattle.prepare.specs.Prepare.{prepared, prepared_by}
use Rattle.tree_list.specs.Tree.{FirstBad}
use Rattle.tree_summary.specs.declared.Summary.{Summary}
use Rattle.gurkenmond.specs.Calls.{cells_needed, count_bound}
use Rattle.demands.specs.Meant.{meant}
use Rattle.demands.specs.Offends.{TooDeep, NoRoom}
use Rattle.demands.specs.Texts.{IsText, nodes_of_text}

-- "a refusal has a number and a place": a row has its number, and says at which places it holds
pub record Row : Type 1 where
  pub number : ℕ
  pub holds : ℕ → Type 0

-- ── the tokens that 4 and 5 speak of ──
-- token i is the name or lake h; followed by an arrow it is a left side (true), else a use (false)
pub data Named : List Lexeme → ℕ → Symbol → Bool → Type 0 where
  here : {x : Lexeme} {l : List Lexeme} {h : Symbol} {b : Bool} → x.is ≡ symbol h → before l ≡ b → Named (x ∷ l) zero h b
  there : {x : Lexeme} {l : List Lexeme} {i : ℕ} {h : Symbol} {b : Bool} → Named l i h b → Named (x ∷ l) (suc i) h b

-- "second left side, or reserved name"
pub data Doubled (m : Mode) (xs : List Lexeme) (i : ℕ) : Type 0 where
  is-reserved : {h : Symbol} {b : Bool} → Named xs i h b → reserved m h ≡ true → Doubled m xs i
  is-second : {h : Symbol} {j : ℕ} → Named xs i h true → j < i → Named xs j h true → Doubled m xs i

-- "nonterminal without a rule": a use of a name that is no left side
pub data Ruleless (xs : List Lexeme) (i : ℕ) : Type 0 where
  no-rule : {w : List ℕ} → Named xs i (name w) false → ((j : ℕ) → Named xs j (name w) true → ⊥) → Ruleless xs i

-- p is where the first token begins of which P holds; n is the text's length
pub record FirstToken (P : ℕ → Type 0) (n : ℕ) (xs : List Lexeme) (p : ℕ) : Type 0 where
  pub number : ℕ
  pub holds : P number
  pub leftmost : (j : ℕ) → j < number → P j → ⊥
  pub place : place_of n xs number ≡ p

-- ── "too many: symbols, terminals, expressions", "1, 2, 3; the lowest" ──
pub data TooMany (m : Mode) (rs : List Rule) : ℕ → Type 0 where
  symbols : symbol_bound < length (symbols_of rs) → TooMany m rs 1
  terminals : length (symbols_of rs) ≤ symbol_bound → terminal_bound < length (terminals_of rs) → TooMany m rs 2
  expressions : length (symbols_of rs) ≤ symbol_bound → length (terminals_of rs) ≤ terminal_bound → expression_bound m < expressions_of rs → TooMany m rs 3

-- ── the rows ──
-- n is over its bound
abbrev pub Over : ℕ → ℕ → ℕ → ℕ → Row
Over number place bound n = record { number = number; holds = λ p. (p ≡ place) × (bound < n) }

module _ (m : Mode) (t : List ℕ) where
  -- "grammar text too long": its bound
  abbrev pub Row1 : Row
  Row1 = Over 1 (text_bound m) (text_bound m) (length t)

  -- "syntax": "first token .. at which what stands before could still begin a grammar and with it could not"
  abbrev pub Row2 : Row
  Row2 = record { number = 2; holds = λ p. (i : ℕ) × Judges m (lexemes m t) (syntax i) × (p ≡ place_of (length t) (lexemes m t) i) }

  -- "name, literal or parenthesis over its bound": that token. "2 and 3: the leftmost place decides, then 2"
  abbrev pub Row3 : Row
  Row3 = record { number = 3; holds = λ p. (i : ℕ) × Judges m (lexemes m t) (wide i) × (p ≡ place_of (length t) (lexemes m t) i) }

  -- "second left side, or reserved name": "leftmost such token"
  abbrev pub Row4 : Row
  Row4 = record { number = 4; holds = FirstToken (Doubled m (lexemes m t)) (length t) (lexemes m t) }

  -- "nonterminal without a rule": "first such use"
  abbrev pub Row5 : Row
  Row5 = record { number = 5; holds = FirstToken (Ruleless (lexemes m t)) (length t) (lexemes m t) }

  -- so much for a text that need not be a grammar; the others speak of the grammar that it is
  abbrev pub Grammarly : (List Rule → Type 0) → Type 0
  Grammarly P = (g : List Rule) × GrammarOf m t g × P g

  abbrev pub Row6 : Row
  Row6 = record { number = 6; holds = λ p. Grammarly (λ g. TooMany m g p) }

  -- "translation over 1,024 expressions": 1,025
  abbrev pub Row7 : Row
  Row7 = record { number = 7; holds = λ p. (p ≡ suc plain_bound) × Grammarly (λ g. plain_bound < sizes (prepared_by g).bodies) }

  -- "loop": "smallest symbol on one"
  abbrev pub Row8 : Row
  Row8 = record { number = 8; holds = λ p. Grammarly (λ g. SmallestLoop (prepared_by g).bodies p) }

  -- "work cells fewer than R·(n+1)": that number
  abbrev pub Row10 : List ℕ → List ℕ → Row
  Row10 s cs = Over 10 (cells_needed (prepared m t) s) (length cs) (cells_needed (prepared m t) s)

  -- "node deeper than 255", "no room for a node": its number in the list of a match that succeeds. "11 and 12: the first node in list order that
  -- offends, then 11"
  abbrev pub WithNodes : List ℕ → (List Node → Type 0) → Type 0
  WithNodes s P = (k : ℕ) × (ns : List Node) × Derives (meant m t) s 0 (sym 0) 0 (suc k) ns × P ns

  abbrev pub Row11 : List ℕ → List ℕ → Row
  Row11 s ws = record { number = 11; holds = λ p. WithNodes s (λ ns. TooDeep (room_of ws) ns p) }

  abbrev pub Row12 : List ℕ → List ℕ → Row
  Row12 s ws = record { number = 12; holds = λ p. WithNodes s (λ ns. NoRoom (room_of ws) ns p) }

-- "input too long": 65,535
abbrev pub Row9 : List ℕ → Row
Row9 s = Over 9 input_bound input_bound (length s)

-- "output room too small": "bytes needed"; w are the bytes
abbrev pub Row13 : List ℕ → List ℕ → Row
Row13 w out = Over 13 (length w) (length out) (length w)

-- what has to be there is not: 0
abbrev pub Missing : ℕ → Type 0 → Row
Missing number There = record { number = number; holds = λ p. (p ≡ 0) × (There → ⊥) }

-- "no such expression, lake or position"
abbrev pub Row14 : Type 0 → Row
Row14 = Missing 14

-- ── the tree as JSON (02, par. 1) ──
-- "output room too small", of a text that may be longer than any room: counts stop at a bound
abbrev pub Row13Counted : List ℕ → List ℕ → Row
Row13Counted w out = Over 13 (min count_bound (length w)) (length out) (length w)

module _ (m : Mode) (t : List ℕ) where
  -- R, and the symbols by number
  abbrev pub known : ℕ
  known = length (prepared m t).grammar.names

  abbrev pub symbol_of : ℕ → Symbol
  symbol_of r = get_or (prepared m t).grammar.names r (name [])

  -- "words that are no preorder list": "the first bad node"
  abbrev pub Row15 : List ℕ → List ℕ → Row
  Row15 s ws = record { number = 15; holds = FirstBad known (length s) ws }

  -- "not a text this writer makes": 0
  abbrev pub Row16 : List ℕ → List ℕ → Row
  Row16 s js = Missing 16 (IsText symbol_of known s js)

  -- "no room for a node", of the list that a text says: the nodes that there is room for
  abbrev pub Row12Read : List ℕ → List ℕ → List ℕ → Row
  Row12Read s js ws =
      record { number = 12; holds = λ p. (p ≡ room_of ws) × ((x : IsText symbol_of known s js) × (room_of ws < length (nodes_of_text x))) }

  -- ── the records of the symbols (02, par. 2) ──
  -- "fewer records than symbols": "the number needed"
  abbrev pub Row17 : List Summary → Row
  Row17 rs = Over 17 known (length rs) known
