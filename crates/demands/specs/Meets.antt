-- What a match may answer and leave in lent memory, by the rules of the meaning and the table of refusals alone: nothing here evaluates anything
-- (01, What the promises have to nail: demand 2; 01, Meaning of a match; 01, Refusal numbers). Assumes nothing: these are definitions.
use Rattle.std.specs.Prelude.{ℕ, suc, ◌+◌, ◌*◌, ◌≤◌, ◌<◌, ◌≡◌, List, length, get_or}
use Rattle.std.proofs.Math.Option.{none, some}
use Rattle.read_tokens.specs.declared.Mode.{Mode}
use Rattle.read_tokens.specs.Bounds.{node_words}
use Rattle.grammar.specs.Exp.{sym}
use Rattle.grammar.specs.Refusal.{refusal}
use Rattle.match_meaning.specs.Meaning.{Node, Derives}
use Rattle.match_list.specs.Nodes.{room_of, nodes_at}
use Rattle.prepare.specs.Prepare.{prepared}
use Rattle.gurkenmond.specs.Answers.{value as Matched, nomatch as NoMatch, refused as OutcomeRefused}
use Rattle.gurkenmond.specs.Calls.{Matching, matching, LakeAnswer, lake_answer}
use Rattle.demands.specs.Meant.{meant, right_at, alternatives_at}
use Rattle.demands.specs.Offends.{Fits, TooDeep, NoRoom}
use Rattle.demands.specs.Checks.{FirstRow, NoRow, input_checks, lake_checks}
use Rattle.demands.specs.Ways.{Ways}

-- R
abbrev pub symbol_count_of : Mode → List ℕ → ℕ
symbol_count_of m t = length (prepared m t).grammar.names

-- "With R symbols and n bytes, u32 work cell p·R + r holds 0 if symbol r fails at p, else 1 + length taken, for p from 0 to n. Later cells .. stay as
-- they were"
pub record Tabled (m : Mode) (t s cs c : List ℕ) : Type 0 where
  pub long : length c ≡ length cs
  pub cell : (p r : ℕ) → p ≤ length s → r < symbol_count_of m t → (ns : List Node) × Derives (meant m t) s 0 (sym r) p (get_or c (p * symbol_count_of m t + r)
      0) ns
  pub later : (i : ℕ) → (length s + 1) * symbol_count_of m t ≤ i → get_or c i 0 ≡ get_or cs i 0

-- the words are those nodes: "node words .. behind the last one written, stay as they were"
pub record NodesIn (ws : List ℕ) (ns : List Node) (w : List ℕ) : Type 0 where
  pub long : length w ≡ length ws
  pub nodes : nodes_at w 0 (length ns) ≡ ns
  pub behind : (i : ℕ) → node_words * length ns ≤ i → get_or w i 0 ≡ get_or ws i 0

-- s the input, cs the work cells, ws the node words that are lent
pub data Meets (m : Mode) (t s cs ws : List ℕ) : Matching → Type 0 where
  -- "A refusal that is checked no later than 10 leaves all lent memory untouched"
  refused : {k p : ℕ} → FirstRow (input_checks m t s cs) k p → Meets m t s cs ws (matching 0 (OutcomeRefused k p) cs ws)
  -- "No match is an answer: no node written, cells filled"
  fails : {c : List ℕ} {ns : List Node} → NoRow (input_checks m t s cs) → Tabled m t s cs c → Derives (meant m t) s 0 (sym 0) 0 0 ns
      → Meets m t s cs ws (matching 0 NoMatch c ws)
  -- the start symbol takes k bytes, and its nodes fit
  takes : {k : ℕ} {c w : List ℕ} {ns : List Node} → NoRow (input_checks m t s cs) → Tabled m t s cs c → Derives (meant m t) s 0 (sym 0) 0 (suc k) ns
      → Fits (room_of ws) ns → NodesIn ws ns w
      → Meets m t s cs ws (matching (length ns) (Matched k) c w)
  -- "after one of a match that is checked later the cells hold the table"
  too-deep : {k j : ℕ} {c : List ℕ} {ns : List Node} → NoRow (input_checks m t s cs) → Tabled m t s cs c → Derives (meant m t) s 0 (sym 0) 0 (suc k) ns
      → TooDeep (room_of ws) ns j
      → Meets m t s cs ws (matching 0 (OutcomeRefused 11 j) c ws)
  no_room : {k j : ℕ} {c : List ℕ} {ns : List Node} → NoRow (input_checks m t s cs) → Tabled m t s cs c → Derives (meant m t) s 0 (sym 0) 0 (suc k) ns
      → NoRoom (room_of ws) ns j
      → Meets m t s cs ws (matching 0 (OutcomeRefused 12 j) c ws)

-- the same of the lake question, for lake l at place q
pub data MeetsLake (m : Mode) (t s cs : List ℕ) (l q : ℕ) : LakeAnswer → Type 0 where
  lake-refused : {k p : ℕ} → FirstRow (lake_checks m t s cs l q) k p → MeetsLake m t s cs l q (lake_answer 0 (some (refusal k p)) cs)
  lake-answered : {w : ℕ} {c : List ℕ} → NoRow (lake_checks m t s cs l q) → Tabled m t s cs c
      → Ways (meant m t) s 0 (right_at (prepared m t).grammar l) (alternatives_at (prepared m t).grammar (prepared m t).analysis l) q w
      → MeetsLake m t s cs l q (lake_answer w none c)
