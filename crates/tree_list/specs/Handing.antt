-- "one reader that keeps the lent node words and its place and hands out the next node" (02, par. 1). It checks nothing: what it hands out is what
-- the words say, and a part of a node at the end is no node. Assumes nothing: these are definitions.
use Rattle.std.specs.Prelude.{ℕ, zero, suc, true, false, cond, List, [], ◌∷◌, ltb}
use Rattle.match_meaning.specs.Meaning.{Node}
use Rattle.match_list.specs.Nodes.{node_at, room_of}
use Rattle.tree_list.specs.declared.Node.{Node as Handed}
use Rattle.tree_list.specs.declared.NodeStep.{NodeStep}

-- a node in the code's own form
abbrev pub in_fields : Node → Handed
in_fields x = record { symbol = x.symbol; start = x.start; end = x.end; depth = x.depth }

abbrev pub no_node : Handed
no_node = record { symbol = 0; start = 0; end = 0; depth = 0 }

-- the node at a place and the place behind it; behind the last whole node there is none, and the place stays
unfoldable pub node_step_at : List ℕ → ℕ → NodeStep
node_step_at ws at =
    cond (ltb at (room_of ws))
    (record { found = true; node = in_fields (node_at ws at); next = suc at })
    (record { found = false; node = no_node; next = at })

-- what is handed out from a place on until there is none, in at most so many steps
unfoldable pub handed_out : ℕ → List ℕ → ℕ → List Handed
handed_out zero ws at = []
handed_out (suc left) ws at = let x : NodeStep = node_step_at ws at in cond x.found (x.node ∷ handed_out left ws x.next) []
