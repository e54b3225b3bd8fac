-- The part of a text that a node says. Assumes nothing: these are definitions.
use Rattle.std.specs.Prelude.{ℕ, ◌-◌, ◌≤◌, ◌≡◌, List, length, take, drop}
use Rattle.match_list.specs.Nodes.{node_text, node_start}

-- of any text of n bytes, from a to b
pub record Spans (ws : List ℕ) (k n a b : ℕ) : Type 0 where
  pub forward : a ≤ b
  pub inside : b ≤ n
  pub from : a ≡ node_start ws k n
  pub text : (s : List ℕ) → length s ≡ n → take (b - a) (drop a s) ≡ node_text s ws k
