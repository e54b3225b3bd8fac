-- THE DEMANDS, each one statement over the public definitions; laws/Demands.antt proves each by one theorem (01, What the promises have to nail).
-- Assumes nothing: these are definitions.
use Rattle.std.specs.Prelude.{ℕ, ◌≤◌, ◌<◌, ◌≡◌, true, cond, List, [], ◌∷◌, ◌++◌, ◌↔◌, length, get_or, take, drop}
use Rattle.std.proofs.Math.Option.{Option, none, some}
use Rattle.read_tokens.specs.declared.Mode.{Mode}
use Rattle.read_tokens.specs.declared.Mode.TheVariants.{Plain}
use Rattle.read_tokens.specs.Bounds.{text_bound}
use Rattle.grammar.specs.Exp.{Rule}
use Rattle.grammar.specs.Refusal.{Refusal, refusal}
use Rattle.grammar.specs.SameGrammar.{SameGrammar}
use Rattle.read_syntax.specs.Grammar.{GrammarOf}
use Rattle.prepare.specs.Prepare.{prepared}
use Rattle.prepare.specs.Reads.{read_of}
use Rattle.gurkenmond.specs.Answers.{Says, refused, nomatch, value, verdict_says}
use Rattle.gurkenmond.specs.Calls.{sets_of, cannot_skip_of, Matching, match_of, LakeAnswer, lake_of, Writing, write_own_of, write_plain_of, symbol_name_of}
use Rattle.gurkenmond.specs.Calls.{parsing, write_json_of, read_json_of, summing, summarise_of, spot_of}
use Rattle.match_meaning.specs.Meaning.{Node}
use Rattle.match_list.specs.Nodes.{nodes_at, room_of}
use Rattle.tree_list.specs.Tree.{IsTree, tree, none as leaf, words_in}
use Rattle.tree_summary.specs.declared.Summary.{Summary}
use Rattle.tree_summary.specs.Summary.{is_of, summary_of, absent, summaries}
use Rattle.tree_summary.specs.Outermost.{outermost_bytes}
use Rattle.tree_summary.specs.Adding.{bytes_added, adding, changed_by}
use Rattle.demands.specs.Rows.{Row, known, symbol_of}
use Rattle.demands.specs.Texts.{IsText, nodes_of_text}
use Rattle.demands.specs.Checks.{FirstRow, NoRow, text_checks, checks, input_checks, match_checks, lake_checks, sets_checks}
use Rattle.demands.specs.Checks.{write_checks, own_text, plain_text, name_checks, list_text, json_checks, read_checks, record_checks, spot_checks}
use Rattle.demands.specs.Meets.{Tabled, Meets, MeetsLake}

-- in the words of the table: m the mode, t the grammar text, s the input, cs the work cells, ws the node words, out the output room

-- ── reading: a text of which no row of 1 to 5 holds is a grammar, and the calls work with its rules ──
abbrev pub Reading : Type 0
Reading = (m : Mode) (t : List ℕ) → NoRow (text_checks m t) → GrammarOf m t (prepared m t).rules

-- ── demand 1: the table's exact conditions ──
-- the refusal in what a match answers
abbrev pub refused_in : Says → Option Refusal
refused_in (refused k p) = some (refusal k p)
refused_in nomatch = none
refused_in (value k) = none

-- an answer with verdict v is refused k at p exactly if row k of the list holds at p and no earlier row of the list holds; then lent memory is as it was
pub record Refuses (v : Option Refusal) (rows : List Row) (Untouched : Type 0) : Type 0 where
  pub exactly : (k p : ℕ) → (v ≡ some (refusal k p)) ↔ FirstRow rows k p
  pub untouched : (k p : ℕ) → v ≡ some (refusal k p) → Untouched

-- "Text is bytes" (01, Notation)
abbrev pub AreBytes : List ℕ → Type 0
AreBytes t = (i : ℕ) → i < length t → get_or t i 0 < 256

pub record Demand1 : Type 0 where
  pub read : (m : Mode) (t : List ℕ) → Refuses (verdict_says (read_of m t).verdict) (checks m t) (Unit {0})
  pub sets : (m : Mode) (t : List ℕ) (e : ℕ) → Refuses (verdict_says (sets_of m t e).verdict) (sets_checks m t e) (Unit {0})
  pub cannot-skip : (m : Mode) (t : List ℕ) → Refuses (verdict_says (cannot_skip_of m t).verdict) (checks m t) (Unit {0})
  pub match : (m : Mode) (t s cs ws : List ℕ)
      → Refuses (refused_in (match_of m t s cs ws).answer.outcome) (match_checks m t s cs ws) ((match_of m t s cs ws).nodes ≡ ws)
  -- "A refusal that is checked no later than 10 leaves all lent memory untouched; after one of a match that is checked later the cells hold the table"
  pub cells-untouched : (m : Mode) (t s cs ws : List ℕ) {k p : ℕ} → FirstRow (input_checks m t s cs) k p → (match_of m t s cs ws).cells ≡ cs
  pub cells-filled : (m : Mode) (t s cs ws : List ℕ) → NoRow (input_checks m t s cs) → Tabled m t s cs (match_of m t s cs ws).cells
  pub lake : (m : Mode) (t s cs : List ℕ) (l q : ℕ) → Refuses (lake_of m t s cs l q).verdict (lake_checks m t s cs l q) ((lake_of m t s cs l q).cells ≡ cs)
  pub own : (m : Mode) (t out : List ℕ) → Refuses (write_own_of m t out).verdict (write_checks m t (own_text m t) out) ((write_own_of m t out).out ≡ out)
  pub plain : (m : Mode) (t out : List ℕ)
      → Refuses (write_plain_of m t out).verdict (write_checks m t (plain_text m t) out) ((write_plain_of m t out).out ≡ out)
  pub name : (m : Mode) (t : List ℕ) (r : ℕ) (out : List ℕ)
      → Refuses (symbol_name_of m t r out).verdict (name_checks m t r out) ((symbol_name_of m t r out).out ≡ out)
  pub json : (m : Mode) (t s ws out : List ℕ)
      → Refuses (write_json_of m t s ws out).verdict (json_checks m t s ws out) ((write_json_of m t s ws out).out ≡ out)
  pub read-json : (m : Mode) (t s js ws : List ℕ) → AreBytes t
      → Refuses (read_json_of m t s js ws).verdict (read_checks m t s js ws) ((read_json_of m t s js ws).words ≡ ws)
  pub summary : (m : Mode) (t s ws : List ℕ) (rs : List Summary)
      → Refuses (summarise_of m t s ws rs).verdict (record_checks m t s ws rs) ((summarise_of m t s ws rs).records ≡ rs)
  pub spot : (s : List ℕ) (q : ℕ) → Refuses (spot_of s q).verdict (spot_checks s q) (Unit {0})

-- ── demand 2: a match, and the lake question, is what the meaning and the table say, and nothing else is: answer, cells and node words ──
pub record Demand2 : Type 0 where
  pub match : (m : Mode) (t s cs ws : List ℕ) (x : Matching) → Meets m t s cs ws x ↔ (x ≡ match_of m t s cs ws)
  pub lake : (m : Mode) (t s cs : List ℕ) (l q : ℕ) (x : LakeAnswer) → MeetsLake m t s cs l q x ↔ (x ≡ lake_of m t s cs l q)

-- ── demand 3, over demand 2's meaning ──
-- a call has written w: it is not refused, answers how many bytes w has, and w are so many from the room's begin
pub record Wrote (x : Writing) (w : List ℕ) : Type 0 where
  pub accepted : x.verdict ≡ none
  pub count : x.bytes ≡ length w
  pub front : w ≡ take x.bytes x.out

-- w, in plain mode, for t: the same matches, for every input and all that is lent; and w again, as its own text and as its plain text, in every room
pub record PlainFor (m : Mode) (t w : List ℕ) : Type 0 where
  pub matches : (s cs ws : List ℕ) (x : Matching) → Meets Plain w s cs ws x ↔ Meets m t s cs ws x
  pub own-again : (out : List ℕ) → write_own_of Plain w out ≡ write_plain_of m t out
  pub plain-again : (out : List ℕ) → write_plain_of Plain w out ≡ write_plain_of m t out

-- of every text that is accepted and every room with place enough
abbrev pub Demand3 : Type 0
Demand3 = (m : Mode) (t out : List ℕ) → AreBytes t → NoRow (write_checks m t (plain_text m t) out) → (w : List ℕ) × Wrote (write_plain_of m t out) w
    × PlainFor m t w

-- ── the own text, within its bound, read again: the same grammar, and every call answers the same ──
pub record SameCalls (m : Mode) (t w : List ℕ) : Type 0 where
  pub grammar : (g : List Rule) → GrammarOf m t g → (h : List Rule) × GrammarOf m w h × SameGrammar g h
  pub read : read_of m w ≡ read_of m t
  pub sets : (e : ℕ) → sets_of m w e ≡ sets_of m t e
  pub cannot-skip : cannot_skip_of m w ≡ cannot_skip_of m t
  pub match : (s cs ws : List ℕ) → match_of m w s cs ws ≡ match_of m t s cs ws
  pub lake : (s cs : List ℕ) (l q : ℕ) → lake_of m w s cs l q ≡ lake_of m t s cs l q
  pub own : (out : List ℕ) → write_own_of m w out ≡ write_own_of m t out
  pub plain : (out : List ℕ) → write_plain_of m w out ≡ write_plain_of m t out
  pub name : (r : ℕ) (out : List ℕ) → symbol_name_of m w r out ≡ symbol_name_of m t r out
  pub json : (s ws out : List ℕ) → write_json_of m w s ws out ≡ write_json_of m t s ws out
  pub read-json : (s js ws : List ℕ) → read_json_of m w s js ws ≡ read_json_of m t s js ws
  pub summary : (s ws : List ℕ) (rs : List Summary) → summarise_of m w s ws rs ≡ summarise_of m t s ws rs

-- "A lake grammar's own text may pass 16,384 bytes; reading it then refuses 1"
abbrev pub OwnTextBack : Type 0
OwnTextBack = (m : Mode) (t out : List ℕ) → AreBytes t → NoRow (write_checks m t (own_text m t) out)
    → (w : List ℕ) × Wrote (write_own_of m t out) w × (length w ≤ text_bound m → SameCalls m t w)
    × (text_bound m < length w → FirstRow (checks m w) 1 (text_bound m))

-- ── the tree as JSON, there and back (02, par. 1) ──
-- the words have the list at their front and are as they were behind it
abbrev pub at_front : List ℕ → List ℕ → List ℕ
at_front ws vs = ws ++ drop (length ws) vs

pub record JsonBack : Type 0 where
  -- "such a text gives the same node list"
  pub there : (m : Mode) (t s ws out vs : List ℕ) → AreBytes t → NoRow (json_checks m t s ws out) → room_of ws ≤ room_of vs
      → (w : List ℕ) × Wrote (write_json_of m t s ws out) w × (read_json_of m t s w vs ≡ parsing (room_of ws) none (at_front ws vs))
  -- whatever is read is a list that has just this text
  pub only : (m : Mode) (t s js vs : List ℕ) → AreBytes t → NoRow (read_checks m t s js vs)
      → (ws : List ℕ) × (read_json_of m t s js vs ≡ parsing (room_of ws) none (at_front ws vs))
      × ((out : List ℕ) → length js ≤ length out → Wrote (write_json_of m t s ws out) js)
  -- what is written is the text of the tree of which the words are the preorder list
  pub tree : (m : Mode) (t s ws : List ℕ) → IsTree (known m t) (length s) ws → (x : IsText (symbol_of m t) (known m t) s (list_text m t s ws))
      × (ws ≡ words_in (nodes_of_text x))

-- ── the records of the symbols (02, par. 2) ──
-- the nodes of the words
abbrev pub in_list : List ℕ → List Node
in_list ws = nodes_at ws 0 (room_of ws)

pub record Records : Type 0 where
  -- not refused: the records of the symbols, and behind them all as it was
  pub answered : (m : Mode) (t s ws : List ℕ) (rs : List Summary) → NoRow (record_checks m t s ws rs)
      → summarise_of m t s ws rs ≡ summing (known m t) none (summaries (length s) (known m t) (in_list ws) rs)
  -- "An added node updates one record, and the result equals the summary worked out afresh": x behind the nodes xs
  pub added : (R n : ℕ) (xs : List Node) (x : Node) → IsTree R n (words_in (xs ++ (x ∷ []))) → (r : ℕ)
      → summary_of n (xs ++ (x ∷ [])) r ≡ cond (is_of r x) (changed_by (summary_of n xs r) (adding (length xs) (bytes_added xs x))) (summary_of n xs r)
  -- "the bytes its outermost nodes cover"
  pub outermost : (R n : ℕ) (ws : List ℕ) (x : IsTree R n ws) (r : ℕ)
      → (summary_of n (in_list ws) r).bytes ≡ outermost_bytes r (tree x.symbol x.start x.end x.children leaf)
  -- "Symbols without a node have a record of zeros, marked absent"
  pub zeros : (n : ℕ) (xs : List Node) (r : ℕ) → ((summary_of n xs r).present ≡ true → ⊥) → summary_of n xs r ≡ absent
