-- A node list and the room that there is: all of it fits, or a first node offends (01, Refusal numbers: "11 and 12: the first node in list order that offends,
-- then 11"). Assumes nothing: these are definitions.
use Rattle.std.specs.Prelude.{ℕ, ◌≤◌, ◌<◌, ◌≡◌, List, [], ◌∷◌, ◌++◌, length}
use Rattle.read_tokens.specs.Bounds.{depth_bound}
use Rattle.match_meaning.specs.Meaning.{Node}

-- "Depth: 255": no node is deeper
abbrev pub Shallow : List Node → Type 0
Shallow [] = Unit {0}
Shallow (n ∷ ns) = (n.depth ≤ depth_bound) × Shallow ns

-- room is the count of nodes that there is room for
pub record Fits (room : ℕ) (ns : List Node) : Type 0 where
  pub shallow : Shallow ns
  pub roomy : length ns ≤ room

-- node k stands in the list, and no node before it offends
pub record Reaches (room : ℕ) (ns : List Node) (k : ℕ) (n : Node) : Type 0 where
  pub front : List Node
  pub behind : List Node
  pub splits : ns ≡ front ++ (n ∷ behind)
  pub number : length front ≡ k
  pub shallow : Shallow front
  pub roomy : k ≤ room

-- "11: node deeper than 255", and "12: no room for a node", "its number"
pub record TooDeep (room : ℕ) (ns : List Node) (k : ℕ) : Type 0 where
  pub node : Node
  pub first : Reaches room ns k node
  pub deeper : depth_bound < node.depth

pub record NoRoom (room : ℕ) (ns : List Node) (k : ℕ) : Type 0 where
  pub node : Node
  pub first : Reaches room ns k node
  pub high : node.depth ≤ depth_bound
  pub no_room : room ≤ k
