use Rattle.std.proofs.Common.{◌≡◌, ◌-◌, take, drop}
use Rattle.tree_json.specs.Json.{chars_json}
use Rattle.tree_json.specs.Reading.{ate}
use Rattle.tree_read.proofs.leaves.eat_chars.Given as goal

abbrev pub invariant-loop-i : goal.invariant-loop-i
invariant-loop-i l = ate (chars_json (take (l.q - l.p) (drop l.p l.input))) l.json l.at ≡ ate (chars_json (take (l.q - l.i) (drop l.i l.input))) l.json l.a
