-- The answers of the public calls as numbers, for callers in other languages. Assumes nothing: these are definitions.
-- The first number is 0, a refusal's number (01, Refusal numbers; its place follows), or 100 for no match.
use Rattle.std.specs.Prelude.{ℕ, zero, suc, ◌-◌, Bool, true, false, cond, ◌≡◌, List, [], ◌∷◌, get_or, length}
use Rattle.std.proofs.Math.Option.{Option, none, some}
use Rattle.read_tokens.specs.declared.Mode.{Mode}
use Rattle.read_tokens.specs.declared.Mode.TheVariants.{Lake, Plain}
use Rattle.grammar.specs.Refusal.{Refusal}
use Rattle.lake_sets.specs.declared.Sets.{Sets}
use Rattle.match_meaning.specs.Meaning.{Node}
use Rattle.match_list.specs.Nodes.{node_at, sound_at}
use Rattle.prepare.specs.declared.Counted.{Counted}
use Rattle.prepare.specs.declared.Verdict.{Verdict}
use Rattle.prepare.specs.declared.Verdict.TheVariants.{Accepted, Refused as VerdictRefused}
use Rattle.tree_summary.specs.declared.Summary.{Summary}
use Rattle.gurkenmond.specs.declared.SetsOf.{SetsOf}
use Rattle.gurkenmond.specs.declared.Lakes.{Lakes}
use Rattle.gurkenmond.specs.Answers.{Says, refused, nomatch, value}
use Rattle.gurkenmond.specs.Calls.{MatchAnswer, Matching, LakeAnswer, Writing, Parsing, Summing, Spotting}

-- the mode of a byte: 0 is lake, every other one plain
abbrev pub mode_of : ℕ → Mode
mode_of zero = Lake
mode_of (suc k) = Plain

-- a call's numbers are left in `out`, and it returns the first of them
abbrev pub Answers : ℕ → List ℕ → List ℕ → Type 0
Answers r out ws = (out ≡ ws) × (r ≡ get_or out 0 0)

abbrev pub four_words : ℕ → ℕ → ℕ → ℕ → List ℕ
four_words a b c d = a ∷ b ∷ c ∷ d ∷ []

-- ── read: 0, symbols, terminals, expressions ──
abbrev pub read_numbers : Verdict → ℕ → ℕ → ℕ → List ℕ
read_numbers Accepted s t e = four_words 0 s t e
read_numbers (VerdictRefused n p) s t e = four_words n p 0 0

abbrev pub read_words : Counted → List ℕ
read_words c = read_numbers c.verdict c.symbols c.terminals c.expressions

-- ── sets: 0, the round count, the two words each of BEGINNING, SUCCEED and ALT, then 1 for ε and 0 for none ──
abbrev pub bit_of : Bool → ℕ
bit_of b = cond b 1 0

abbrev pub sets_numbers : Verdict → ℕ → Sets → List ℕ
sets_numbers Accepted k s =
    0 ∷ k ∷ get_or s.begin 0 0 ∷ get_or s.begin 1 0 ∷ get_or s.succeed 0 0 ∷ get_or s.succeed 1 0
    ∷ get_or s.alt 0 0 ∷ get_or s.alt 1 0 ∷ bit_of s.eps ∷ []
sets_numbers (VerdictRefused n p) k s = n ∷ p ∷ 0 ∷ 0 ∷ 0 ∷ 0 ∷ 0 ∷ 0 ∷ 0 ∷ []

abbrev pub sets_words : SetsOf → List ℕ
sets_words r = sets_numbers r.verdict r.rounds r.sets

-- ── the lakes that cannot skip: 0, their bits ──
abbrev pub lakes_numbers : Verdict → ℕ → List ℕ
lakes_numbers Accepted w = four_words 0 w 0 0
lakes_numbers (VerdictRefused n p) w = four_words n p 0 0

abbrev pub lakes_words : Lakes → List ℕ
lakes_words l = lakes_numbers l.verdict l.word

-- ── match: 0, bytes taken, nodes; the cells and node words are those of the call's definition ──
abbrev pub match_numbers : Says → ℕ → List ℕ
match_numbers (value p) k = four_words 0 p k 0
match_numbers nomatch k = four_words 100 0 0 0
match_numbers (refused n p) k = four_words n p 0 0

abbrev pub match_words : MatchAnswer → List ℕ
match_words m = match_numbers m.outcome m.nodes

abbrev pub NumbersMatch : ℕ → List ℕ → List ℕ → List ℕ → Matching → Type 0
NumbersMatch r out cs ws m = (out ≡ match_words m.answer) × (r ≡ get_or out 0 0) × (cs ≡ m.cells) × (ws ≡ m.nodes)

-- ── one value, or a refusal ──
abbrev pub one_by : Option Refusal → ℕ → List ℕ
one_by none x = four_words 0 x 0 0
one_by (some r) x = four_words r.number r.place 0 0

-- ── the lake question: 0, then "0 not, 1 by its rule, 2 by water, 3 by one skipped byte" ──
abbrev pub NumbersLake : ℕ → List ℕ → List ℕ → LakeAnswer → Type 0
NumbersLake r out cs a = (out ≡ one_by a.verdict a.way) × (r ≡ get_or out 0 0) × (cs ≡ a.cells)

-- ── a node: 0, then 1 for sound and 0 for unsound ──
abbrev pub sound_words : Bool → List ℕ
sound_words b = four_words 0 (bit_of b) 0 0

-- ── its text: 0, where it begins in the input, how many bytes it has; "for an unsound node, the empty part at 0" ──
abbrev pub span_by : Bool → Node → List ℕ
span_by true x = four_words 0 x.start (x.end - x.start) 0
span_by false x = four_words 0 0 0 0

-- s the input, ws the node words; `laws/Parts.antt`: that part of s is what the public call answers
abbrev pub span_words : List ℕ → List ℕ → ℕ → List ℕ
span_words s ws k = span_by (sound_at ws k (length s)) (node_at ws k)

-- ── writing: 0, bytes written; the room is that of the call's definition ──
abbrev pub NumbersText : ℕ → List ℕ → List ℕ → Writing → Type 0
NumbersText r out room w = (out ≡ one_by w.verdict w.bytes) × (r ≡ get_or out 0 0) × (room ≡ w.out)

-- a JSON text read: 0, nodes
abbrev pub NumbersParsed : ℕ → List ℕ → List ℕ → Parsing → Type 0
NumbersParsed r out nodes w = (out ≡ one_by w.verdict w.nodes) × (r ≡ get_or out 0 0) × (nodes ≡ w.words)

-- ── the records of the symbols: 0, symbols; the records are those of the call's definition ──
abbrev pub NumbersSummed : ℕ → List ℕ → List Summary → Summing → Type 0
NumbersSummed r out rs w = (out ≡ one_by w.verdict w.symbols) × (r ≡ get_or out 0 0) × (rs ≡ w.records)

-- ── line and column: 0, line, column ──
abbrev pub spot_by : Option Refusal → ℕ → ℕ → List ℕ
spot_by none l c = four_words 0 l c 0
spot_by (some r) l c = four_words r.number r.place 0 0

abbrev pub spot_words : Spotting → List ℕ
spot_words w = spot_by w.verdict w.line w.column
