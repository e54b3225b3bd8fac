-- How the code judges words: node by node, with the gaps in an array. Assumes nothing: these are definitions.
use Rattle.std.specs.Prelude.{ℕ, ◌-◌, ◌≤◌, ◌≡◌, List, length}
use Rattle.match_list.specs.Nodes.{room_of, nodes_at}
use Rattle.tree_list.specs.Preorder.{Gap, bad_from, whole}
use Rattle.tree_list.specs.steps.Gaps.{Gapped}

-- the nodes before node k are let in: what is left to judge is what follows
pub record Judging (R n : ℕ) (ws : List ℕ) (k depths : ℕ) (gaps : List ℕ) : Type 0 where
  pub gs : List Gap
  pub many : length gs ≡ depths
  pub held : Gapped gs gaps
  pub within : k ≤ room_of ws
  pub same : bad_from R (whole n) 0 (nodes_at ws 0 (room_of ws)) ≡ bad_from R gs k (nodes_at ws k (room_of ws - k))
