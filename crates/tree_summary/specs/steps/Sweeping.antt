-- How the code works the records out: one step a symbol that makes its record absent, then one a node. Assumes nothing: these are definitions.
use Rattle.std.specs.Prelude.{ℕ, zero, suc, ◌+◌, ◌-◌, ◌≤◌, ◌<◌, ◌≡◌, ⊤, cond, List, ltb, length, get_or, set, replicate}
use Rattle.std.proofs.Math.Option.{none}
use Rattle.grammar_table.specs.Table.{up_to}
use Rattle.match_list.specs.Nodes.{node_at, nodes_at, room_of}
use Rattle.tree_list.specs.Preorder.{bad_node}
use Rattle.tree_summary.specs.declared.Summary.{Summary}
use Rattle.tree_summary.specs.declared.Change.{Change}
use Rattle.tree_summary.specs.declared.Change.TheVariants.{Clear, Add}
use Rattle.tree_summary.specs.declared.Sweep.{Sweep}
use Rattle.tree_summary.specs.Summary.{absent}
use Rattle.tree_summary.specs.Adding.{reach_of, bytes_added, adding, clearing, changed_by}

-- the record that step i changes, and the change
unfoldable pub place_at : List ℕ → ℕ → ℕ → ℕ
place_at ws R i = cond (ltb i R) i (node_at ws (i - R)).symbol

unfoldable pub change_at : List ℕ → ℕ → ℕ → Change
change_at ws R i = cond (ltb i R) clearing (adding (i - R) (bytes_added (nodes_at ws 0 (i - R)) (node_at ws (i - R))))

-- the farthest ends by symbol, of the nodes before node k
unfoldable pub reaches : List ℕ → ℕ → List ℕ
reaches ws k = up_to (λ r. reach_of r (nodes_at ws 0 k)) 64

-- before the first step
abbrev pub at_first : Sweep
at_first = record { place = 0; change = clearing; reach = replicate 64 0 }

-- what is known behind step i
unfoldable pub sweep_at : List ℕ → ℕ → ℕ → Sweep
sweep_at ws R zero = at_first
sweep_at ws R (suc i) = record { place = place_at ws R i; change = change_at ws R i; reach = reaches ws (suc i - R) }

-- the records behind so many steps
unfoldable pub stepped : List ℕ → ℕ → ℕ → List Summary → List Summary
stepped ws R zero rs = rs
stepped ws R (suc i) rs =
    let before : List Summary = stepped ws R i rs in
    set before (place_at ws R i) (changed_by (get_or before (place_at ws R i) absent) (change_at ws R i))

-- the words are a list for R symbols and an input of n bytes, and every step has its node
pub record Sweepable (ws : List ℕ) (R steps : ℕ) : Type 0 where
  pub n : ℕ
  pub good : bad_node R n ws ≡ none
  pub few : R ≤ 64
  pub short : n < 65536
  pub long : length ws < 18446744073709551616
  pub within : steps ≤ R + room_of ws

-- a change that a record has room for: one that adds finds counts below 2^62
abbrev pub Fits : Summary → Change → Type 0
Fits old Clear = ⊤
Fits old (Add k b) = (old.nodes < 4611686018427387904) × (old.bytes < 4611686018427387904) × (b < 4611686018427387904)
