-- "An added node updates one record" (02, par. 2): what a node adds to the record of its symbol, all nodes before it being known. Assumes nothing: these
-- are definitions.
use Rattle.std.specs.Prelude.{ℕ, ◌+◌, ◌-◌, max, true, cond, List, [], ◌∷◌, leb}
use Rattle.match_meaning.specs.Meaning.{Node}
use Rattle.tree_summary.specs.declared.Summary.{Summary}
use Rattle.tree_summary.specs.declared.Change.{Change}
use Rattle.tree_summary.specs.declared.Change.TheVariants.{Clear, Add}
use Rattle.tree_summary.specs.Summary.{is_of, absent}

-- the farthest end of the nodes of symbol r
unfoldable pub reach_of : ℕ → List Node → ℕ
reach_of r [] = 0
reach_of r (x ∷ xs) = cond (is_of r x) (max x.end (reach_of r xs)) (reach_of r xs)

-- the bytes that x has behind all nodes of its symbol before it: in a preorder list a node that begins before their farthest end lies in one of them
abbrev pub bytes_added : List Node → Node → ℕ
bytes_added xs x = cond (leb (reach_of x.symbol xs) x.start) (x.end - x.start) 0

-- node k is added, with so many bytes; or the record is made absent
abbrev pub adding : ℕ → ℕ → Change
adding k b = Add k b

abbrev pub clearing : Change
clearing = Clear

unfoldable pub changed_by : Summary → Change → Summary
changed_by old Clear = absent
changed_by old (Add k b) =
    record { nodes = old.nodes + 1; bytes = old.bytes + b; first = cond old.present old.first k; last = k; present = true }
