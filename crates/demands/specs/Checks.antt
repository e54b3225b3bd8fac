-- The order of checks: of each call the list of the rows that it looks at (01, Refusal numbers, in order of check). Assumes nothing: these are definitions.
use Rattle.std.specs.Prelude.{ℕ, ◌≤◌, ◌<◌, ◌≡◌, true, List, [], ◌∷◌, ◌++◌, ◌⊎◌, length, get_or}
use Rattle.read_tokens.specs.declared.Mode.{Mode}
use Rattle.read_tokens.specs.Token.{Symbol, name}
use Rattle.lake_rules.specs.Analysis.{is_expression}
use Rattle.lake_plain.specs.Plain.{plain_rules}
use Rattle.write_rules.specs.Writing.{symbol_text, text}
use Rattle.prepare.specs.Prepare.{prepared}
use Rattle.match_list.specs.Nodes.{nodes_at, room_of}
use Rattle.tree_json.specs.Json.{json_text}
use Rattle.tree_summary.specs.declared.Summary.{Summary}
use Rattle.gurkenmond.specs.Calls.{is_lake_at}
use Rattle.demands.specs.Rows.{Row, Row1, Row2, Row3, Row4, Row5, Row6, Row7, Row8, Row9, Row10, Row11, Row12, Row13, Row14}
use Rattle.demands.specs.Rows.{Row13Counted, Row15, Row16, Row12Read, Row17, symbol_of}

-- the row holds nowhere
abbrev pub Never : Row → Type 0
Never R = (p : ℕ) → R.holds p → ⊥

-- refused k at p by a list: row k of the list holds at p, and no row before it in the list holds anywhere
abbrev pub FirstRow : List Row → ℕ → ℕ → Type 0
FirstRow [] k p = ⊥
FirstRow (R ∷ l) k p = ((R.number ≡ k) × R.holds p) ⊎ (Never R × FirstRow l k p)

-- not refused: no row of the list holds
abbrev pub NoRow : List Row → Type 0
NoRow [] = Unit {0}
NoRow (R ∷ l) = Never R × NoRow l

module _ (m : Mode) (t : List ℕ) where
  -- what is looked at before there is a grammar
  abbrev pub text_checks : List Row
  text_checks = Row1 m t ∷ Row2 m t ∷ Row3 m t ∷ Row4 m t ∷ Row5 m t ∷ []

  -- "Every call on a grammar checks 1 to 8"
  abbrev pub checks : List Row
  checks = text_checks ++ (Row6 m t ∷ Row7 m t ∷ Row8 m t ∷ [])

  -- "a match then 9 to 12": 9 and 10 before the cells are filled, 11 and 12 on the list of nodes
  abbrev pub input_checks : List ℕ → List ℕ → List Row
  input_checks s cs = checks ++ (Row9 s ∷ Row10 m t s cs ∷ [])

  abbrev pub match_checks : List ℕ → List ℕ → List ℕ → List Row
  match_checks s cs ws = input_checks s cs ++ (Row11 m t s ws ∷ Row12 m t s ws ∷ [])

  -- "the lake question 9, 10, then 14"
  abbrev pub lake_checks : List ℕ → List ℕ → ℕ → ℕ → List Row
  lake_checks s cs l q = input_checks s cs ++ (Row14 ((is_lake_at (prepared m t) l ≡ true) × (q ≤ length s)) ∷ [])

  abbrev pub sets_checks : ℕ → List Row
  sets_checks e = checks ++ (Row14 (is_expression (prepared m t).analysis e ≡ true) ∷ [])

  -- writing then 13, of the bytes w
  abbrev pub write_checks : List ℕ → List ℕ → List Row
  write_checks w out = checks ++ (Row13 w out ∷ [])

  -- the bytes: "Rules that the grammar has (in plain, every symbol's)" (01, Writing)
  abbrev pub own_text : List ℕ
  own_text = text (prepared m t).rules

  abbrev pub plain_text : List ℕ
  plain_text = text (plain_rules (prepared m t).grammar (prepared m t).analysis)

  -- a symbol's name: 14 for a number that no symbol has, then 13, of the name with a lake's brackets
  abbrev pub symbol_names : List Symbol
  symbol_names = (prepared m t).grammar.names

  abbrev pub name_text : ℕ → List ℕ
  name_text r = symbol_text (get_or symbol_names r (name []))

  abbrev pub name_checks : ℕ → List ℕ → List Row
  name_checks r out = checks ++ (Row14 (r < length symbol_names) ∷ Row13 (name_text r) out ∷ [])

  -- the tree as JSON (02, par. 1): "both after 9, and 12 or 13 is checked last"; the list is all words handed over
  abbrev pub list_text : List ℕ → List ℕ → List ℕ
  list_text s ws = json_text (symbol_of m t) s (nodes_at ws 0 (room_of ws))

  abbrev pub json_checks : List ℕ → List ℕ → List ℕ → List Row
  json_checks s ws out = checks ++ (Row9 s ∷ Row15 m t s ws ∷ Row13Counted (list_text s ws) out ∷ [])

  abbrev pub read_checks : List ℕ → List ℕ → List ℕ → List Row
  read_checks s js ws = checks ++ (Row9 s ∷ Row16 m t s js ∷ Row12Read m t s js ws ∷ [])

  -- the records of the symbols (02, par. 2): "9 and 15 first; 17 .. before any are touched"
  abbrev pub record_checks : List ℕ → List ℕ → List Summary → List Row
  record_checks s ws rs = checks ++ (Row9 s ∷ Row15 m t s ws ∷ Row17 m t rs ∷ [])

-- line and column (02, par. 2): 9, then "14 for a position past the text"
abbrev pub spot_checks : List ℕ → ℕ → List Row
spot_checks s q = Row9 s ∷ Row14 (q ≤ length s) ∷ []
