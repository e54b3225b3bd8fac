use Rattle.std.proofs.Common.{◌≡◌, ◌≤◌, ◌-◌}
use Rattle.tree_json.specs.Reading.{digits_at}
use Rattle.tree_read.specs.laws.Numbers.{most_by}
use Rattle.tree_read.proofs.leaves.digits.Given as goal

abbrev pub invariant-loop-i : goal.invariant-loop-i
invariant-loop-i l = (l.v ≤ most_by (5 - (l.i - l.at))) × (digits_at 5 0 l.json l.at ≡ digits_at (5 - (l.i - l.at)) l.v l.json l.i)
