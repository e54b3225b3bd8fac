-- What is read, one expression after the other: symbols, the bodies of those whose rules are read, terminals by first appearance, expressions parts before
-- wholes (01, Notation: "Symbols are numbered from 0"; 01, Lakes made plain: "parts before wholes, rule after rule"). And what it means that a table
-- holds what is read so far. Assumes nothing: these are definitions.
use Rattle.std.specs.Prelude.{ℕ, ◌-◌, ◌≤◌, ◌<◌, ◌≡◌, Bool, true, false, ◌||◌, List, [], ◌∷◌, ◌++◌, length, get_or}
use Rattle.read_tokens.specs.Token.{Symbol, name, Leaf, any, Tok, symbol, leaf, pre, suf, arrow, slash, opens, closes, bad}
use Rattle.grammar.specs.Exp.{Exp, Rule, sym, ter, seq, alt, opt, star, plus, ahead, never}
use Rattle.grammar.specs.Parts.{Part, terminal, occurs, sequence, choice, option, repeat, repeat1, affirms, denies}
use Rattle.grammar.specs.Same.{same_symbol, same_leaf, index_of}
use Rattle.grammar_table.specs.Table.{terminals_at, terminal_words, symbols_at, symbol_words, body_at, symbol_key, terminal_key, table_words, part_in}
use Rattle.read_syntax.specs.Reader.{is_arrow}
use Rattle.grammar_table.specs.steps.Rows.{cap}
use Rattle.grammar_table.specs.laws.Rows.{also, All}
use Rattle.grammar_table.specs.laws.Kept.{Kept}
use Rattle.read_entries.specs.steps.Entries.{symbol_record, FitSymbol, leaf_record, FitLeaf}

pub record St : Type 0 where
  pub names : List Symbol
  pub heads : List ℕ
  pub terms : List Leaf
  pub parts : List Part

abbrev pub st : List Symbol → List ℕ → List Leaf → List Part → St
st n h t p = record { names = n; heads = h; terms = t; parts = p }

abbrev pub last_of : St → ℕ
last_of s = length s.parts - 1

abbrev pub push : Part → St → St
push p s = st s.names s.heads s.terms (s.parts ++ (p ∷ []))

-- an operator over the last expression, and one over the last of u and the last of v
abbrev pub under : (ℕ → Part) → St → St
under mk s = push (mk (last_of s)) s

abbrev pub joined : (ℕ → ℕ → Part) → St → St → St
joined mk u v = push (mk (last_of u) (last_of v)) v

abbrev pub leafed : Leaf → St → St
leafed x s = st s.names s.heads (also same_leaf x s.terms) s.parts

abbrev pub used : Leaf → St → St
used x s = push (terminal (index_of same_leaf x s.terms)) s

-- the expression e, laid behind what there is
unfoldable pub lay : Exp Symbol → St → St
lay (sym h) s = push (occurs (index_of same_symbol h s.names)) s
lay (ter x) s = used x (leafed x s)
lay (seq a b) s = joined sequence (lay a s) (lay b (lay a s))
lay (alt a b) s = joined choice (lay a s) (lay b (lay a s))
lay (opt a) s = under option (lay a s)
lay (star a) s = under repeat (lay a s)
lay (plus a) s = under repeat1 (lay a s)
lay (ahead a) s = under affirms (lay a s)
lay (never a) s = under denies (lay a s)

-- a rule's body is the last expression: 1 + its number
abbrev pub headed : St → St
headed s = st s.names (s.heads ++ (length s.parts ∷ [])) s.terms s.parts

unfoldable pub lay_rules : List Rule → St → St
lay_rules [] s = s
lay_rules (r ∷ rs) s = lay_rules rs (headed (lay r.right s))

-- ── the symbols of a text ──
-- the symbols that an arrow follows, or all
abbrev pub gather_by : Bool → Symbol → List Symbol → List Symbol
gather_by true h l = h ∷ l
gather_by false h l = l

unfoldable pub gathered : Bool → List Tok → List Symbol
gathered every [] = []
gathered every (symbol h ∷ l) = gather_by (every || is_arrow l) h (gathered every l)
gathered every (leaf x ∷ l) = gathered every l
gathered every (pre x ∷ l) = gathered every l
gathered every (suf x ∷ l) = gathered every l
gathered every (arrow ∷ l) = gathered every l
gathered every (slash ∷ l) = gathered every l
gathered every (opens ∷ l) = gathered every l
gathered every (closes ∷ l) = gathered every l
gathered every (bad ∷ l) = gathered every l

-- ── the table ──
pub record Fits (s : St) : Type 0 where
  pub symbols : All FitSymbol s.names
  pub leaves : All FitLeaf s.terms

-- counts stop one above their bound; expressions are right as long as symbols and terminals are within theirs
pub record Told (t : List ℕ) (s : St) : Type 0 where
  pub symbols : Kept (name []) symbol_record symbol_key symbol_words t 0 symbols_at s.names
  pub leaves : Kept any leaf_record terminal_key terminal_words t 1 terminals_at s.terms
  pub count : get_or t 2 0 ≡ cap 1025 (length s.parts)
  pub parts : length s.names ≤ 64 → length s.terms ≤ 64 → (i : ℕ) → i < 1024 → i < length s.parts → part_in t i ≡ get_or s.parts i (terminal 0)
  pub roots : length s.parts ≤ 1024 → (i : ℕ) → i < 64 → i < length s.names → get_or t (body_at i) 0 ≡ get_or s.heads i 0

-- the table holds what is read so far, if each name and literal is within its bound
pub record Rel (t : List ℕ) (s : St) : Type 0 where
  pub long : length t ≡ table_words
  pub told : Fits s → Told t s
