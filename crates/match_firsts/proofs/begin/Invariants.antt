use Prim.Native.Nat.{◌≤◌}
use Rattle.match_firsts.proofs.begin.Given as goal

abbrev pub invariant-loop-y : goal.invariant-loop-y
invariant-loop-y l = l.y ≤ l.x

abbrev pub decreases-loop-y : goal.decreases-loop-y
decreases-loop-y l = l.y
