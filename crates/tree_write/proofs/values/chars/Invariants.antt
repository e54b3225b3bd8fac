use Rattle.std.proofs.Common.{◌≡◌, ◌-◌, take, drop}
use Rattle.write_leaves.specs.steps.Pen.{after}
use Rattle.tree_json.specs.Json.{chars_json}
use Rattle.tree_write.proofs.values.chars.Given as goal

abbrev pub invariant-loop-i : goal.invariant-loop-i
invariant-loop-i l = after l.pen (chars_json (take (l.q - l.i) (drop l.i l.input))) ≡ after l.initial.pen (chars_json (take (l.q - l.p) (drop l.p l.input)))
