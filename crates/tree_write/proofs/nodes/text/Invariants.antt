use Rattle.std.proofs.Common.{◌≡◌, false}
use Rattle.match_list.specs.Nodes.{room_of, nodes_at}
use Rattle.write_leaves.specs.steps.Pen.{after}
use Rattle.write_leaves.specs.steps.Printed.{called}
use Rattle.tree_json.specs.Json.{json_text}
use Rattle.tree_write.specs.laws.Nodes.{rest_of}
use Rattle.tree_write.proofs.nodes.text.Given as goal

abbrev pub invariant-loop-k : goal.invariant-loop-k
invariant-loop-k l = after l.pen (rest_of (called false l.t) l.input l.nodes l.k) ≡ after l.initial.pen (json_text (called false l.t) l.input (nodes_at l.nodes 0 (room_of l.nodes)))
