-- What is read of one node, how it goes on behind it, and what all nodes come to (02, par. 1). Assumes nothing: these are definitions.
use Rattle.std.specs.Prelude.{ℕ, suc, ◌+◌, ◌-◌, ◌≤◌, ◌<◌, ◌≡◌, ◌⊎◌, ⊤, true, false, cond, List, [], ◌∷◌, eqb, length, Option as Maybe, None, Some, MatchOption}
use Rattle.std.proofs.Math.Option.{Option, none, some}
use Rattle.read_tokens.specs.Token.{Symbol}
use Rattle.read_tokens.specs.Bounds.{depth_bound}
use Rattle.match_meaning.specs.Meaning.{Node, nd}
use Rattle.match_list.specs.Nodes.{written}
use Rattle.tree_list.specs.Preorder.{Gap, gaps_behind}
use Rattle.tree_list.specs.steps.Gaps.{Gapped}
use Rattle.tree_read.specs.declared.heads.Then.{Then}
use Rattle.tree_read.specs.declared.heads.Then.TheVariants.{Last, More}
use Rattle.tree_read.specs.declared.nodes.Turn.{Turn}
use Rattle.tree_json.specs.Reading.{Took, closes_at, cons_to, head_at, next_at, nodes_from}

-- the head of a node: symbol r from p to q, and the place a behind it
pub record Headed (f : ℕ → Symbol) (R : ℕ) (s js : List ℕ) (at r p q a : ℕ) : Type 0 where
  pub node : (d : ℕ) → (head_at f R s js d at).node ≡ nd r p q d
  pub place : (d : ℕ) → (head_at f R s js d at).place ≡ a
  pub known : r ≤ R
  pub starts : p < 100000
  pub ends : q < 100000

-- by how it goes on behind node x: no list can come of it; x is the last; others follow, g being the nodes from a depth and a place on
abbrev pub goes_on : Maybe Then → Node → (ℕ → ℕ → Option (List Node)) → Option (List Node)
goes_on None x g = none
goes_on (Some Last) x g = some (x ∷ [])
goes_on (Some (More d a)) x g = cons_to x (g d a)

-- what follows is at most one deeper than d
abbrev pub Low : ℕ → Maybe Then → Type 0
Low d None = ⊤
Low d (Some Last) = ⊤
Low d (Some (More e a)) = e ≤ d + 1

-- from a place past the text's end on there is no list
abbrev pub Fades : List ℕ → (ℕ → ℕ → Option (List Node)) → Type 0
Fades js g = (e a : ℕ) → length js < a → g e a ≡ none

-- behind c closing pairs of a node x of depth d: g are the nodes from a depth and a place on
abbrev pub behind_pairs : List ℕ → ℕ → Took → Node → (ℕ → ℕ → Option (List Node)) → Option (List Node)
behind_pairs js d c x g =
    elim (eqb c.value (suc d)) [
      | true ↦ cond (eqb c.place (length js)) (some (x ∷ [])) none
      | false ↦ cons_to x (g (suc d - c.value) (next_at js c))
    ]

-- behind these pairs no list can come of it, or only one that goes on past the text's end
abbrev pub Stops : List ℕ → ℕ → Took → Type 0
Stops js d c =
    ((x : Node) (g : ℕ → ℕ → Option (List Node)) → behind_pairs js d c x g ≡ none)
    ⊎ ((length js < next_at js c) × ((x : Node) (g : ℕ → ℕ → Option (List Node)) → behind_pairs js d c x g ≡ cons_to x (g (suc d - c.value) (next_at js c))))

-- behind the head of a node of depth d, from place at on
pub record Onward (js : List ℕ) (d at : ℕ) (o : Maybe Then) : Type 0 where
  pub said : MatchOption o (Stops js d (closes_at (suc d) js at))
      (λ t. (x : Node) (g : ℕ → ℕ → Option (List Node)) → behind_pairs js d (closes_at (suc d) js at) x g ≡ goes_on (Some t) x g)
  pub low : Low d o

-- node k, of depth d, read at a place where the gaps are gs
module _ (f : ℕ → Symbol) (R : ℕ) (s js : List ℕ) where
  pub record Goes (gs : List Gap) (new : List ℕ) (k d at : ℕ) (x : Node) (o : Then) : Type 0 where
    pub said : (left : ℕ) → nodes_from f R s (suc left) js gs k d at ≡ goes_on (Some o) x (nodes_from f R s left js (gaps_behind gs x) (suc k))
    pub gapped : Gapped (gaps_behind gs x) new
    pub depths : length (gaps_behind gs x) ≡ d + 2
    pub deep : d ≤ depth_bound

  -- the same for whatever gaps the array holds
  pub record Went (old new : List ℕ) (depths k d at : ℕ) (x : Node) (o : Then) : Type 0 where
    pub goes : (gs : List Gap) → length gs ≡ depths → Gapped gs old → Goes gs new k d at x o
    pub depth : x.depth ≡ d
    pub known : x.symbol ≤ R
    pub starts : x.start < 100000
    pub ends : x.end < 100000
    pub low : Low d (Some o)

  -- or no list can come of it
  abbrev pub Turned : List ℕ → List ℕ → ℕ → ℕ → ℕ → ℕ → Maybe Turn → Type 0
  Turned old new depths k d at o =
      MatchOption o
      ((gs : List Gap) → length gs ≡ depths → Gapped gs old → (left : ℕ) → nodes_from f R s (suc left) js gs k d at ≡ none)
      (λ t. Went old new depths k d at (nd t.node.symbol t.node.start t.node.end t.node.depth) t.then)

-- how many nodes a list has
abbrev pub count_of : Option (List Node) → Maybe ℕ
count_of none = None
count_of (some ns) = Some (length ns)

-- what reading all nodes answers, and what it writes
pub record Walked (o : Option (List Node)) (old new : List ℕ) (r : Maybe ℕ) : Type 0 where
  pub count : r ≡ count_of o
  pub words : (ns : List Node) → o ≡ some ns → new ≡ written old 0 ns
