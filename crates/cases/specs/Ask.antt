-- Questions to the public definitions, and their answers, so that cases can stand in one table. Assumes nothing: these are definitions.
use Rattle.std.specs.Prelude.{ℕ, ◌*◌, Bool, false, List, [], ◌∷◌, take, replicate}
use Prim.Native.Char.{code}
use Prim.Native.String.{String, [] as end, ◌∷◌ as ◌then◌}
use Rattle.std.proofs.Math.Option.{Option, none, some}
use Rattle.read_tokens.specs.declared.Mode.{Mode}
use Rattle.read_tokens.specs.Bounds.{node_words}
use Rattle.grammar.specs.Refusal.{Refusal}
use Rattle.prepare.specs.declared.Counted.{Counted}
use Rattle.prepare.specs.Reads.{read_of}
use Rattle.gurkenmond.specs.declared.SetsOf.{SetsOf}
use Rattle.gurkenmond.specs.declared.Lakes.{Lakes}
use Rattle.gurkenmond.specs.Answers.{Says, refused, value, verdict_says}
use Rattle.gurkenmond.specs.Calls.{Matching, match_of, LakeAnswer, lake_of, sets_of, cannot_skip_of, Writing, write_own_of, write_plain_of}
use Rattle.tree_summary.specs.declared.Summary.{Summary}
use Rattle.gurkenmond.specs.Calls.{write_json_of, Parsing, read_json_of, Summing, summarise_of, Spotting, spot_of}

-- a quoted text as bytes; all of them are ASCII
unfoldable pub bytes : String → List ℕ
bytes end = []
bytes (◌then◌ c s) = code c ∷ bytes s

pub data Asked : Type 0 where
  reads rounds skips own plain : Mode → String → Asked
  alt sets : Mode → String → ℕ → Asked
  -- with cells and node words
  matches : Mode → String → String → ℕ → ℕ → Asked
  -- how lake symbol l matches at a position
  lakes : Mode → String → String → ℕ → ℕ → Asked
  -- node words as JSON text, with room; a JSON text as node words, so many of them lent
  texts : Mode → String → String → List ℕ → ℕ → Asked
  lists : Mode → String → String → List ℕ → ℕ → Asked
  -- the records of node words, so many of them lent; the line and column of a position
  sums : Mode → String → String → List ℕ → ℕ → Asked
  spots : String → ℕ → Asked

pub data Said : Type 0 where
  says : Says → Said
  -- symbols, terminals, expressions
  counted : ℕ → ℕ → ℕ → Said
  words : List ℕ → Said
  -- BEGINNING without ε, SUCCEED, ALT, ε
  three : List ℕ → List ℕ → List ℕ → Bool → Said
  written : List ℕ → Said
  -- an answer, the count of nodes, and the node words that are theirs
  listed : Says → ℕ → List ℕ → Said
  -- how many symbols, and all records lent
  summed : ℕ → List Summary → Said

-- what is said where nothing refuses
abbrev pub unless : Option Refusal → Said → Said
unless none x = x
unless (some r) x = says (refused r.number r.place)

abbrev pub read_said : Counted → Said
read_said c = unless (verdict_says c.verdict) (counted c.symbols c.terminals c.expressions)

abbrev pub rounds_by : SetsOf → Said
rounds_by r = unless (verdict_says r.verdict) (says (value r.rounds))

abbrev pub skips_by : Lakes → Said
skips_by r = unless (verdict_says r.verdict) (says (value r.word))

abbrev pub text_by : Writing → Said
text_by w = unless w.verdict (written (take w.bytes w.out))

abbrev pub alt_by : SetsOf → Said
alt_by r = unless (verdict_says r.verdict) (words r.sets.alt)

abbrev pub three_by : SetsOf → Said
three_by r = unless (verdict_says r.verdict) (three r.sets.begin r.sets.succeed r.sets.alt r.sets.eps)

abbrev pub matched_by : Matching → Said
matched_by x = listed x.answer.outcome x.answer.nodes (take (node_words * x.answer.nodes) x.nodes)

abbrev pub lake_said : LakeAnswer → Said
lake_said x = unless x.verdict (says (value x.way))

abbrev pub list_said : Parsing → Said
list_said x = unless x.verdict (words (take (node_words * x.nodes) x.words))

abbrev pub sums_by : Summing → Said
sums_by x = unless x.verdict (summed x.symbols x.records)

abbrev pub spot_said : Spotting → Said
spot_said x = unless x.verdict (words (x.line ∷ x.column ∷ []))

-- a record that no symbol has
abbrev pub lent : Summary
lent = record { nodes = 1; bytes = 0; first = 0; last = 0; present = false }

-- room for the longest text of the table
abbrev pub room : List ℕ
room = replicate 128 0

unfoldable pub answered : Asked → Said
answered (reads m t) = read_said (read_of m (bytes t))
answered (rounds m t) = rounds_by (sets_of m (bytes t) 1)
answered (skips m t) = skips_by (cannot_skip_of m (bytes t))
answered (own m t) = text_by (write_own_of m (bytes t) room)
answered (plain m t) = text_by (write_plain_of m (bytes t) room)
answered (alt m t e) = alt_by (sets_of m (bytes t) e)
answered (sets m t e) = three_by (sets_of m (bytes t) e)
answered (matches m t s c w) = matched_by (match_of m (bytes t) (bytes s) (replicate c 0) (replicate w 0))
answered (lakes m t s l q) = lake_said (lake_of m (bytes t) (bytes s) (replicate 256 0) l q)
answered (texts m t s ws n) = text_by (write_json_of m (bytes t) (bytes s) ws (replicate n 0))
answered (lists m t s js n) = list_said (read_json_of m (bytes t) (bytes s) js (replicate n 0))
answered (sums m t s ws n) = sums_by (summarise_of m (bytes t) (bytes s) ws (replicate n lent))
answered (spots s p) = spot_said (spot_of (bytes s) p)

pub record Case : Type 0 where
  pub asked : Asked
  pub said : Said
