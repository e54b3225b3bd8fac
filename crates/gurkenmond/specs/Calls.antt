-- What each public call answers and leaves in lent memory, for all inputs (01, Refusal numbers; 01, Meaning of a match; 01, Writing), and what it therefore
-- promises: `Says..` of its result and of every lent word afterwards, in 01's numbers by Answers.antt. Assumes nothing: these are definitions.
use Rattle.std.specs.Prelude.{ℕ, zero, suc, ◌+◌, ◌*◌, min, ◌≡◌, Bool, true, false, not, ◌&&◌, List, [], ◌++◌, length, get_or, drop, leb, ltb}
use Rattle.std.proofs.Math.Option.{Option, none, some}
use Rattle.read_tokens.specs.declared.Mode.{Mode}
use Rattle.read_tokens.specs.Token.{Symbol, name}
use Rattle.read_tokens.specs.Bounds.{input_bound}
use Rattle.grammar.specs.Exp.{Exp}
use Rattle.grammar.specs.Numbers.{is_lake}
use Rattle.grammar.specs.Refusal.{Refusal, refuse_if, refuse_at, ◌▸◌}
use Rattle.base_words.specs.Set.{empty}
use Rattle.lake_sets.specs.declared.Sets.{Sets}
use Rattle.lake_rules.specs.Analysis.{Analysis, is_expression, lake_alt, cannot_skip}
use Rattle.lake_sets.specs.SetsAt.{sets_at}
use Rattle.lake_plain.specs.Plain.{plain_rules}
use Rattle.lake_plain.specs.Calls.{order}
use Rattle.match_lake.specs.Asking.{way_in}
use Rattle.match_cells.specs.Cells.{cells}
use Rattle.match_meaning.specs.Meaning.{Node}
use Rattle.match_list.specs.Nodes.{Listing, all, deep, full, list_of, listing_of, words_of, room_of, nodes_at, written}
use Rattle.tree_list.specs.Preorder.{bad_node}
use Rattle.base_lines.specs.Lines.{line_of, column_of}
use Rattle.tree_summary.specs.declared.Summary.{Summary}
use Rattle.tree_summary.specs.declared.Summed.{Summed}
use Rattle.tree_summary.specs.Summary.{summaries}
use Rattle.tree_json.specs.Json.{json_text}
use Rattle.tree_json.specs.Reading.{parsed}
use Rattle.write_rules.specs.Writing.{symbol_text, text}
use Rattle.gurkenmond.specs.declared.SetsOf.{SetsOf}
use Rattle.gurkenmond.specs.declared.Lakes.{Lakes}
use Rattle.gurkenmond.specs.declared.Spot.{Spot}
use Rattle.match_run.specs.declared.Match.{Match}
use Rattle.match_ask.specs.declared.LakeWay.{LakeWay}
use Rattle.write_put.specs.declared.Written.{Written}
use Rattle.tree_read.specs.declared.Parsed.{Parsed}
use Rattle.gurkenmond.specs.Answers.{Says, refused, nomatch, value, verdict_says, outcome_says, way_says}
use Rattle.prepare.specs.declared.Counted.{Counted}
use Rattle.prepare.specs.Prepare.{Prepared, prepared, refuses}
use Rattle.prepare.specs.Reads.{verdict_of, read_of}

-- in the words of the table: m the mode, t the grammar text, s the input, cs the work cells, ws the node words, out the output room

-- ── read: refused 1 to 8, or the counts (`read_of` of crate prepare) ──
abbrev pub SaysRead : Counted → Mode → List ℕ → Type 0
SaysRead r m t = (r ≡ read_of m t) × (verdict_says r.verdict ≡ refuses m t)

-- ── sets: refused 1 to 8, then "14: no such expression, lake or position" ──
abbrev pub no_sets : Sets
no_sets = record { begin = empty; succeed = empty; alt = empty; eps = false }

abbrev pub sets_by : Option Refusal → Analysis → ℕ → SetsOf
sets_by (some r) a e = record { sets = no_sets; rounds = 0; verdict = verdict_of (some r) }
sets_by none a e = record { sets = sets_at a e; rounds = a.rounds; verdict = verdict_of none }

abbrev pub refuses_sets : Mode → List ℕ → ℕ → Option Refusal
refuses_sets m t e = refuses m t ▸ refuse_if (not (is_expression (prepared m t).analysis e)) 14 0

unfoldable pub sets_of : Mode → List ℕ → ℕ → SetsOf
sets_of m t e = sets_by (refuses_sets m t e) (prepared m t).analysis e

abbrev pub SaysSets : SetsOf → Mode → List ℕ → ℕ → Type 0
SaysSets r m t e = (r ≡ sets_of m t e) × (verdict_says r.verdict ≡ refuses_sets m t e)

-- ── the lakes that cannot skip ──
abbrev pub lakes_by : Option Refusal → Prepared → Lakes
lakes_by (some r) p = record { word = 0; verdict = verdict_of (some r) }
lakes_by none p = record { word = cannot_skip p.grammar p.analysis; verdict = verdict_of none }

unfoldable pub cannot_skip_of : Mode → List ℕ → Lakes
cannot_skip_of m t = lakes_by (refuses m t) (prepared m t)

abbrev pub SaysLakes : Lakes → Mode → List ℕ → Type 0
SaysLakes r m t = (r ≡ cannot_skip_of m t) × (verdict_says r.verdict ≡ refuses m t)

-- ── match: 1 to 8, 9, 10; then the cells are filled, and 11 and 12 are looked for ──
-- R·(n+1)
abbrev pub cells_needed : Prepared → List ℕ → ℕ
cells_needed p s = length p.bodies * (length s + 1)

-- "9: input too long", place 65,535
abbrev pub refuses_length : List ℕ → Option Refusal
refuses_length s = refuse_if (ltb input_bound (length s)) 9 input_bound

-- "10: work cells fewer than R·(n+1)", place "that number"
abbrev pub refuses_input : Prepared → List ℕ → List ℕ → Option Refusal
refuses_input p s cs = refuses_length s ▸ refuse_if (ltb (length cs) (cells_needed p s)) 10 (cells_needed p s)

-- an answer, and every lent word after it
pub record MatchAnswer : Type 0 where
  pub nodes : ℕ
  pub outcome : Says

pub record Matching : Type 0 where
  pub answer : MatchAnswer
  pub cells : List ℕ
  pub nodes : List ℕ

abbrev pub matching : ℕ → Says → List ℕ → List ℕ → Matching
matching k o cs ws = record { answer = record { nodes = k; outcome = o }; cells = cs; nodes = ws }

abbrev pub listing_by : ℕ → Listing → List ℕ → List ℕ → Matching
listing_by taken (all k) cs ws = matching k (value taken) cs ws
listing_by taken (deep k) cs ws = matching 0 (refused 11 k) cs ws
listing_by taken (full k) cs ws = matching 0 (refused 12 k) cs ws

-- by the start symbol's cell at 0. "No match is an answer: no node written, cells filled"
abbrev pub match_by : ℕ → List (Exp ℕ) → List ℕ → List ℕ → List ℕ → Matching
match_by zero bodies s cs ws = matching 0 nomatch cs ws
match_by (suc taken) bodies s cs ws =
    listing_by taken (listing_of (room_of ws) 0 (list_of bodies s cs)) cs (words_of (room_of ws) ws (list_of bodies s cs))

-- the cells after filling, by the plain bodies in the order of ranks
abbrev pub filled : Prepared → List ℕ → List ℕ → List ℕ
filled p s cs = cells p.bodies (order p.bodies) s cs

-- "A refusal that is checked no later than 10 leaves all lent memory untouched"
abbrev pub match_after : Option Refusal → Prepared → List ℕ → List ℕ → List ℕ → Matching
match_after (some r) p s cs ws = matching 0 (refused r.number r.place) cs ws
match_after none p s cs ws = match_by (get_or (filled p s cs) 0 0) p.bodies s (filled p s cs) ws

unfoldable pub match_of : Mode → List ℕ → List ℕ → List ℕ → List ℕ → Matching
match_of m t s cs ws = let p : Prepared = prepared m t in match_after (refuses m t ▸ refuses_input p s cs) p s cs ws

abbrev pub SaysMatch : Match → List ℕ → List ℕ → Matching → Type 0
SaysMatch r cs ws w = (r.nodes ≡ w.answer.nodes) × (outcome_says r.outcome ≡ w.answer.outcome) × (cs ≡ w.cells) × (ws ≡ w.nodes)

-- ── the lake question: "9, 10, then 14" ──
abbrev pub is_lake_at : Prepared → ℕ → Bool
is_lake_at p r = ltb r (length p.grammar.names) && is_lake (get_or p.grammar.names r (name []))

-- "0 not, 1 by its rule, 2 by water, 3 by one skipped byte"; 0 where it is refused
pub record LakeAnswer : Type 0 where
  pub way : ℕ
  pub verdict : Option Refusal
  pub cells : List ℕ

abbrev pub lake_answer : ℕ → Option Refusal → List ℕ → LakeAnswer
lake_answer w o cs = record { way = w; verdict = o; cells = cs }

abbrev pub lake_after : Option Refusal → Prepared → List ℕ → List ℕ → ℕ → ℕ → LakeAnswer
lake_after (some r) p s cs l q = lake_answer 0 (some r) cs
lake_after none p s cs l q =
    lake_answer (way_in p.grammar s (filled p s cs) (length p.bodies) (lake_alt p.analysis l) l q) none (filled p s cs)

unfoldable pub lake_of : Mode → List ℕ → List ℕ → List ℕ → ℕ → ℕ → LakeAnswer
lake_of m t s cs l q =
    let p : Prepared = prepared m t in
    lake_after (refuses m t ▸ refuses_input p s cs ▸ refuse_if (not (is_lake_at p l && leb q (length s))) 14 0) p s cs l q

abbrev pub SaysWay : LakeWay → List ℕ → LakeAnswer → Type 0
SaysWay r cs w = (way_says r.way ≡ w.way) × (verdict_says r.verdict ≡ w.verdict) × (cs ≡ w.cells)

-- ── writing: "13: output room too small", place "bytes needed". Output bytes "behind the last one written, stay as they were" ──
pub record Writing : Type 0 where
  pub bytes : ℕ
  pub verdict : Option Refusal
  pub out : List ℕ

abbrev pub writing : ℕ → Option Refusal → List ℕ → Writing
writing k o out = record { bytes = k; verdict = o; out = out }

abbrev pub write_after : Option Refusal → List ℕ → List ℕ → Writing
write_after (some r) w out = writing 0 (some r) out
write_after none w out = writing (length w) none (w ++ drop (length w) out)

abbrev pub write_by : Option Refusal → List ℕ → List ℕ → Writing
write_by o w out = write_after (o ▸ refuse_if (ltb (length out) (length w)) 13 (length w)) w out

-- a grammar's own text: "Rules that the grammar has"
unfoldable pub write_own_of : Mode → List ℕ → List ℕ → Writing
write_own_of m t out = write_by (refuses m t) (text (prepared m t).rules) out

-- the plain text: "in plain, every symbol's"
unfoldable pub write_plain_of : Mode → List ℕ → List ℕ → Writing
write_plain_of m t out = let p : Prepared = prepared m t in write_by (refuses m t) (text (plain_rules p.grammar p.analysis)) out

-- ── a symbol's name as it stands in the grammar, a lake's with its brackets: 1 to 8, then 14 for a symbol that the grammar has not, then 13 ──
abbrev pub is_symbol : Prepared → ℕ → Bool
is_symbol p r = ltb r (length p.grammar.names)

unfoldable pub symbol_name_of : Mode → List ℕ → ℕ → List ℕ → Writing
symbol_name_of m t r out =
    let p : Prepared = prepared m t in
    write_by (refuses m t ▸ refuse_if (not (is_symbol p r)) 14 0) (symbol_text (get_or p.grammar.names r (name []))) out

-- ── the tree as JSON (02, par. 1): 1 to 8, 9, 15 at the first bad node, then 13 ──
abbrev pub symbol_at : Prepared → ℕ → Symbol
symbol_at p r = get_or p.grammar.names r (name [])

-- the list is all words handed over
abbrev pub json_of : Prepared → List ℕ → List ℕ → List ℕ
json_of p s ws = json_text (symbol_at p) s (nodes_at ws 0 (room_of ws))

abbrev pub refuses_list : Prepared → List ℕ → List ℕ → Option Refusal
refuses_list p s ws = refuses_length s ▸ refuse_at 15 (bad_node (length p.grammar.names) (length s) ws)

-- a count of bytes stops here: no room is as long
abbrev pub count_bound : ℕ
count_bound = 9223372036854775808

unfoldable pub write_json_of : Mode → List ℕ → List ℕ → List ℕ → List ℕ → Writing
write_json_of m t s ws out =
    let p : Prepared = prepared m t in
    let w : List ℕ = json_of p s ws in
    write_after ((refuses m t ▸ refuses_list p s ws) ▸ refuse_if (ltb (length out) (length w)) 13 (min count_bound (length w))) w out

-- of each of the four
abbrev pub SaysText : Written → List ℕ → Writing → Type 0
SaysText r out w = (r.bytes ≡ w.bytes) × (verdict_says r.verdict ≡ w.verdict) × (out ≡ w.out)

-- ── a JSON text read: 1 to 8, 9, "16, not a text this writer makes, place 0", then 12 with the nodes that there is room for ──
pub record Parsing : Type 0 where
  pub nodes : ℕ
  pub verdict : Option Refusal
  pub words : List ℕ

abbrev pub parsing : ℕ → Option Refusal → List ℕ → Parsing
parsing k o ws = record { nodes = k; verdict = o; words = ws }

abbrev pub is_text : Option (List Node) → Bool
is_text none = false
is_text (some ns) = true

abbrev pub list_in : Option (List Node) → List Node
list_in none = []
list_in (some ns) = ns

abbrev pub parse_after : Option Refusal → List Node → List ℕ → Parsing
parse_after (some r) ns ws = parsing 0 (some r) ws
parse_after none ns ws = parsing (length ns) none (written ws 0 ns)

abbrev pub read_in : Prepared → List ℕ → List ℕ → Option (List Node)
read_in p s js = parsed (symbol_at p) (length p.grammar.names) s js

-- 16 and 12 of a text that says these nodes, or none
abbrev pub refuses_read : Option (List Node) → List ℕ → Option Refusal
refuses_read o ws = refuse_if (not (is_text o)) 16 0 ▸ refuse_if (ltb (room_of ws) (length (list_in o))) 12 (room_of ws)

unfoldable pub read_json_of : Mode → List ℕ → List ℕ → List ℕ → List ℕ → Parsing
read_json_of m t s js ws =
    let p : Prepared = prepared m t in
    let o : Option (List Node) = read_in p s js in
    parse_after ((refuses m t ▸ refuses_length s) ▸ refuses_read o ws) (list_in o) ws

abbrev pub SaysParsed : Parsed → List ℕ → Parsing → Type 0
SaysParsed r ws w = (r.nodes ≡ w.nodes) × (verdict_says r.verdict ≡ w.verdict) × (ws ≡ w.words)

-- ── the records of the symbols (02, par. 2): 1 to 8, 9, 15, then "17, fewer records than symbols, before any are touched, with the number needed" ──
pub record Summing : Type 0 where
  pub symbols : ℕ
  pub verdict : Option Refusal
  pub records : List Summary

abbrev pub summing : ℕ → Option Refusal → List Summary → Summing
summing k o rs = record { symbols = k; verdict = o; records = rs }

abbrev pub refuses_records : Prepared → List ℕ → List ℕ → List Summary → Option Refusal
refuses_records p s ws rs = let R : ℕ = length p.grammar.names in refuses_list p s ws ▸ refuse_if (ltb (length rs) R) 17 R

-- the records behind those of the symbols stay
abbrev pub summarise_after : Option Refusal → Prepared → List ℕ → List ℕ → List Summary → Summing
summarise_after (some r) p s ws rs = summing 0 (some r) rs
summarise_after none p s ws rs = let R : ℕ = length p.grammar.names in summing R none (summaries (length s) R (nodes_at ws 0 (room_of ws)) rs)

unfoldable pub summarise_of : Mode → List ℕ → List ℕ → List ℕ → List Summary → Summing
summarise_of m t s ws rs = let p : Prepared = prepared m t in summarise_after (refuses m t ▸ refuses_records p s ws rs) p s ws rs

abbrev pub SaysSummed : Summed → List Summary → Summing → Type 0
SaysSummed r rs w = (r.symbols ≡ w.symbols) × (verdict_says r.verdict ≡ w.verdict) × (rs ≡ w.records)

-- ── line and column of a position (02, par. 2): 9, then "14 for a position past the text" ──
pub record Spotting : Type 0 where
  pub line : ℕ
  pub column : ℕ
  pub verdict : Option Refusal

abbrev pub spot_after : Option Refusal → List ℕ → ℕ → Spotting
spot_after (some r) s p = record { line = 0; column = 0; verdict = some r }
spot_after none s p = record { line = line_of s p; column = column_of s p; verdict = none }

unfoldable pub spot_of : List ℕ → ℕ → Spotting
spot_of s p = spot_after (refuses_length s ▸ refuse_if (not (leb p (length s))) 14 0) s p

abbrev pub SaysSpot : Spot → Spotting → Type 0
SaysSpot r w = (r.line ≡ w.line) × (r.column ≡ w.column) × (verdict_says r.verdict ≡ w.verdict)
