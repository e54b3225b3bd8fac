-- What the code has in lent memory at each step, over the words of a table: every reading is total. Assumes nothing: these are definitions.
use Rattle.std.specs.Prelude.{ℕ, zero, suc, ◌+◌, ◌<◌, ◌≤◌, ◌≡◌, Bool, true, false, List, [], ◌∷◌, ◌++◌, length, get_or, set, replicate, ltb}
use Rattle.base_words.specs.Set.{empty}
use Rattle.base_rounds.specs.Rounds.{iter}
use Rattle.base_rounds.specs.Flow.{Edge}
use Rattle.grammar.specs.Parts.{Part, terminal, occurs, sequence, choice, option, repeat, repeat1, affirms, denies}
use Rattle.grammar_table.specs.Table.{expression_count, symbol_word, part_in, up_to}
use Rattle.base_rounds.specs.laws.Cells.{Every}
use Rattle.base_rounds.specs.laws.Pair.{Set2}
use Rattle.base_rounds.specs.laws.Flow.{Inside}
use Rattle.base_rounds.specs.laws.Sys.{edges, empties}
use Rattle.lake_rules.specs.Beginning.{Beginning, begin, nothing, marked, root_eps, begin_by, beginnings}
use Rattle.lake_rules.specs.Analysis.{uses_alt}
use Rattle.lake_rules.specs.Flows.{Gift, over_parts, given, succeed_gifts, succeed_edges, alt_gifts, alt_edges}
use Rattle.lake_rules.specs.laws.Reached.{Flowed}
use Rattle.lake_rules.specs.laws.Wholes.{Ok}

-- BEGINNING of expression i as two lent runs have it
abbrev pub pair_at : List (List ℕ) → List Bool → ℕ → Beginning
pair_at sets eps i = begin (get_or sets i empty) (get_or eps i false)

-- the root of symbol r: 0 where it has no body, else 1 + its number
abbrev pub root_in : List ℕ → ℕ → ℕ
root_in t r = symbol_word t r 1

-- ALT of symbol r by its root: of the body, or over the uses
abbrev pub alt_by : List ℕ → List (List ℕ) → ℕ → ℕ → List ℕ
alt_by t alts r zero = uses_alt (part_in t) (λ i. get_or alts i empty) r (expression_count t)
alt_by t alts r (suc e) = get_or alts e empty

abbrev pub alt_in : List ℕ → List (List ℕ) → ℕ → List ℕ
alt_in t alts r = alt_by t alts r (root_in t r)

-- a number that has a bit in a word
abbrev pub Small : Part → Type 0
Small (terminal x) = x < 64
Small (occurs r) = r < 64
Small (sequence a b) = Unit {0}
Small (choice a b) = Unit {0}
Small (option a) = Unit {0}
Small (repeat a) = Unit {0}
Small (repeat1 a) = Unit {0}
Small (affirms a) = Unit {0}
Small (denies a) = Unit {0}

-- a table of n expressions, r symbols and x terminals in which each part comes before its whole and each root is one of them
pub record Tame (t : List ℕ) (n r x : ℕ) : Type 0 where
  pub symbols : r ≤ 64
  pub terminals : x ≤ 64
  pub parts : (i : ℕ) → i < n → Ok r x i (part_in t i)
  pub roots : (s : ℕ) → s < r → root_in t s ≤ n

-- BEGINNING of all n expressions of a table
abbrev pub begins_in : List ℕ → List Bool → ℕ → List Beginning
begins_in t ms n = beginnings (marked ms) (up_to (part_in t) n)

-- the marks of the symbols' bodies after one more round
abbrev pub mark_next : List ℕ → ℕ → List Bool → List Bool
mark_next t n ms = up_to (λ r. root_eps (λ j. get_or (begins_in t ms n) j nothing) (root_in t r)) (length ms)

abbrev pub marks_in : List ℕ → ℕ → ℕ → ℕ → List Bool
marks_in t n r k = iter (mark_next t n) (replicate r false) k

-- what is stored for expression e
pub record Begun (t : List ℕ) (ms : List Bool) (e : ℕ) (sets : List (List ℕ)) (eps : List Bool) (sets' : List (List ℕ)) (eps' : List Bool) : Type 0 where
  pub set_is : Small (part_in t e) → sets' ≡ set sets e (begin_by (marked ms) (pair_at sets eps) (part_in t e)).set
  pub set_long : length sets' ≡ length sets
  pub eps-is : eps' ≡ set eps e (begin_by (marked ms) (pair_at sets eps) (part_in t e)).eps

-- what is stored for all
abbrev pub BegunAll : List ℕ → List Bool → ℕ → List (List ℕ) → List Bool → Type 0
BegunAll t ms n sets eps = (r x : ℕ) → Tame t n r x → (i : ℕ) → pair_at sets eps i ≡ get_or (begins_in t ms n) i nothing

abbrev pub MarkedOnce : List ℕ → ℕ → List Bool → List Bool → Type 0
MarkedOnce t n ms ms' = (x : ℕ) → Tame t n (length ms) x → ms' ≡ mark_next t n ms

abbrev pub MarkedAll : List ℕ → ℕ → ℕ → List Bool → Type 0
MarkedAll t n r ms = (x : ℕ) → Tame t n r x → ms ≡ marks_in t n r r

-- the edges that lead to one of n expressions
abbrev pub kept_by : Bool → Edge → List Edge → List Edge
kept_by true e l = e ∷ l
kept_by false e l = l

unfoldable pub kept : ℕ → List Edge → List Edge
kept n [] = []
kept n (e ∷ es) = kept_by (ltb e.to n) e (kept n es)

-- the edges of SUCCEED, and of ALT
abbrev pub edges_by : Bool → (ℕ → Beginning) → (ℕ → ℕ) → ℕ → Part → List Edge
edges_by true bs root i p = succeed_edges bs root i p
edges_by false bs root i p = alt_edges bs root i p

-- es more, behind the first m
pub record Grown (src dst : List ℕ) (m : ℕ) (es : List Edge) (src' dst' : List ℕ) (m' : ℕ) : Type 0 where
  pub all : edges src' dst' m' ≡ edges src dst m ++ es
  pub most : m' ≤ m + length es

-- those of the first e expressions of a table of n
abbrev pub handed : List ℕ → List Bool → Bool → ℕ → ℕ → List Edge
handed t eps back n e = over_parts (λ i p. kept n (edges_by back (pair_at [] eps) (root_in t) i p)) 0 (up_to (part_in t) e)

-- the gifts of the first e expressions
abbrev pub succeed_given : List ℕ → List (List ℕ) → ℕ → List Gift
succeed_given t sets e = over_parts (succeed_gifts (pair_at sets []) (root_in t)) 0 (up_to (part_in t) e)

abbrev pub alt_given : List ℕ → List (List ℕ) → List Bool → List (List ℕ) → ℕ → List Gift
alt_given t sets eps succ e = over_parts (alt_gifts (pair_at sets eps) (root_in t) (λ i. get_or succ i empty)) 0 (up_to (part_in t) e)

-- cells whose words are words
abbrev pub Fine : List (List ℕ) → Type 0
Fine base = Every (Set2 64 64) [] (length base) base

pub record Gave (gifts : List Gift) (base base' : List (List ℕ)) : Type 0 where
  pub is : base' ≡ given gifts base
  pub fine : Fine base → Fine base'

-- rounds along the first m edges, from what the gifts give at once
abbrev pub FlowedAlong : List ℕ → List ℕ → ℕ → List (List ℕ) → ℕ → List (List ℕ) → Type 0
FlowedAlong src dst m base k s =
    (n : ℕ) (gifts : List Gift) (es : List Edge) → edges src dst m ≡ es → base ≡ given gifts (empties n) → length base ≡ n → Flowed n gifts es k s

-- rounds along the edges of a table: of SUCCEED where `back`, else of ALT
abbrev pub FlowedFrom : List ℕ → List Bool → Bool → List (List ℕ) → ℕ → List (List ℕ) → Type 0
FlowedFrom t eps back base k s =
    (n : ℕ) (gifts : List Gift) → base ≡ given gifts (empties n) → length base ≡ n → Flowed n gifts (handed t eps back n n) k s

-- what rounds ask: edges between expressions, and cells for each
pub record RoundsAsk (src dst : List ℕ) (m : ℕ) (base : List (List ℕ)) (cur next : ℕ) : Type 0 where
  pub src-long : m ≤ length src
  pub dst-long : m ≤ length dst
  pub inside : Inside (length base) (edges src dst m)
  pub cur-long : cur ≡ length base
  pub next-long : next ≡ length base
  pub few : length base ≤ 1024
  pub fine : Fine base
