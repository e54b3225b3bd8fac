-- A node as it is read from lent words. Assumes nothing: these are definitions.
use Rattle.std.specs.Prelude.{ℕ, ◌<◌, ◌≡◌, List}
use Rattle.match_list.specs.Nodes.{node_at}
use Rattle.tree_list.specs.declared.Node.{Node as Handed}
use Rattle.tree_list.specs.Handing.{in_fields}

-- x is node k, and its numbers are words
pub record NodeRead (ws : List ℕ) (k : ℕ) (x : Handed) : Type 0 where
  pub is : x ≡ in_fields (node_at ws k)
  pub start : x.start < 4294967296
  pub end : x.end < 4294967296
  pub depth : x.depth < 4294967296
