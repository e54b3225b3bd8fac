use Prim.Native.Nat.{◌+◌, ◌≤◌}
use Rattle.match_parts.proofs.put_list.Given as goal

abbrev pub invariant-loop-e : goal.invariant-loop-e
invariant-loop-e l = l.j + l.y ≤ l.x

abbrev pub decreases-loop-e : goal.decreases-loop-e
decreases-loop-e l = l.y
