-- SUCCEED and ALT (01, Lakes made plain): what each expression gives its parts at once, and what it hands on of its own set.
-- A body "gets the set of each occurrence"; a lake may have none (02, §4). Assumes nothing: these are definitions.
use Rattle.std.specs.Prelude.{ℕ, zero, suc, Bool, true, false, List, [], ◌∷◌, ◌++◌, get_or, set, replicate}
use Rattle.base_words.specs.Set.{union_of, empty}
use Rattle.base_rounds.specs.Rounds.{Settled, settle}
use Rattle.base_rounds.specs.Flow.{Edge, flow, same_sets}
use Rattle.grammar.specs.Parts.{Part, terminal, occurs, sequence, choice, option, repeat, repeat1, affirms, denies}
use Rattle.lake_rules.specs.Beginning.{Beginning}

-- what expression `to` gets whatever the sets are
pub record Gift : Type 0 where
  pub to : ℕ
  pub set : List ℕ

abbrev pub gift : ℕ → List ℕ → Gift
gift i s = record { to = i; set = s }

abbrev pub edge : ℕ → ℕ → Edge
edge i j = record { from = i; to = j }

abbrev pub when : {A : Type 0} → Bool → A → List A
when true x = x ∷ []
when false x = []

-- into a symbol's body by its root: none where it has none
abbrev pub edge_into : ℕ → ℕ → List Edge
edge_into i zero = []
edge_into i (suc e) = edge i e ∷ []

-- bs: the beginnings; root: 0 for a symbol without a body, else 1 + the number of its body
module _ (bs : ℕ → Beginning) (root : ℕ → ℕ) where
  -- SUCCEED. "In a b: a gets B(b)"; "`*`, `+`: e gets B(e)"
  abbrev pub succeed_gifts : ℕ → Part → List Gift
  succeed_gifts i (terminal t) = []
  succeed_gifts i (occurs r) = []
  succeed_gifts i (sequence a b) = gift a (bs b).set ∷ []
  succeed_gifts i (choice a b) = []
  succeed_gifts i (option e) = []
  succeed_gifts i (repeat e) = gift e (bs e).set ∷ []
  succeed_gifts i (repeat1 e) = gift e (bs e).set ∷ []
  succeed_gifts i (affirms e) = []
  succeed_gifts i (denies e) = []

  -- "b gets the sequence's; a .. the sequence's if b has ε. Choice, `?`: parts get the whole's. `*`, `+`: .. the whole's. Under `&` and `!`: nothing"
  abbrev pub succeed_edges : ℕ → Part → List Edge
  succeed_edges i (terminal t) = []
  succeed_edges i (occurs r) = edge_into i (root r)
  succeed_edges i (sequence a b) = edge i b ∷ when (bs b).eps (edge i a)
  succeed_edges i (choice a b) = edge i a ∷ edge i b ∷ []
  succeed_edges i (option e) = edge i e ∷ []
  succeed_edges i (repeat e) = edge i e ∷ []
  succeed_edges i (repeat1 e) = edge i e ∷ []
  succeed_edges i (affirms e) = []
  succeed_edges i (denies e) = []

  -- ALT, where succeed are the SUCCEED sets. "In a / b: .. a also gets B(b), and the choice's SUCCEED if b has ε. Under `? * +`: e gets .. the whole's SUCCEED"
  abbrev pub alt_gifts : (ℕ → List ℕ) → ℕ → Part → List Gift
  alt_gifts succeed i (terminal t) = []
  alt_gifts succeed i (occurs r) = []
  alt_gifts succeed i (sequence a b) = []
  alt_gifts succeed i (choice a b) = gift a (bs b).set ∷ when (bs b).eps (gift a (succeed i))
  alt_gifts succeed i (option e) = gift e (succeed i) ∷ []
  alt_gifts succeed i (repeat e) = gift e (succeed i) ∷ []
  alt_gifts succeed i (repeat1 e) = gift e (succeed i) ∷ []
  alt_gifts succeed i (affirms e) = []
  alt_gifts succeed i (denies e) = []

  -- "In a b: a gets the sequence's; b gets it only if a has ε. In a / b: both get the choice's. Under `? * +`: e gets the whole's ALT. Under `&`
  -- and `!`: nothing"
  abbrev pub alt_edges : ℕ → Part → List Edge
  alt_edges i (terminal t) = []
  alt_edges i (occurs r) = edge_into i (root r)
  alt_edges i (sequence a b) = edge i a ∷ when (bs a).eps (edge i b)
  alt_edges i (choice a b) = edge i a ∷ edge i b ∷ []
  alt_edges i (option e) = edge i e ∷ []
  alt_edges i (repeat e) = edge i e ∷ []
  alt_edges i (repeat1 e) = edge i e ∷ []
  alt_edges i (affirms e) = []
  alt_edges i (denies e) = []

-- over all expressions, numbered from i on
unfoldable pub over_parts : {A : Type 0} → (ℕ → Part → List A) → ℕ → List Part → List A
over_parts f i [] = []
over_parts f i (p ∷ ps) = f i p ++ over_parts f (suc i) ps

-- the sets with the gifts in them
unfoldable pub given : List Gift → List (List ℕ) → List (List ℕ)
given [] acc = acc
given (x ∷ l) acc = given l (set acc x.to (union_of (get_or acc x.to empty) x.set))

-- a round, "all rules at once": the gifts, and along each edge what the last round had
abbrev pub round_by : ℕ → List Gift → List Edge → List (List ℕ) → List (List ℕ)
round_by n gifts edges old = flow union_of [] edges old (given gifts (replicate n empty))

-- rounds from all empty up to the first whose next is equal; most: "at most expressions times (symbols + terminals)"
unfoldable pub least_by : ℕ → ℕ → List Gift → List Edge → Settled (List (List ℕ))
least_by most n gifts edges = settle same_sets (round_by n gifts edges) (suc most) 0 (replicate n empty)
