use Rattle.std.proofs.Common.{◌≡◌, ◌-◌}
use Rattle.write_leaves.specs.steps.Pen.{after}
use Rattle.tree_json.specs.Json.{closings}
use Rattle.tree_write.proofs.nodes.close.Given as goal

abbrev pub invariant-loop : goal.invariant-loop
invariant-loop l = after l.pen (closings (l.c - l.counter)) ≡ after l.initial.pen (closings l.c)
