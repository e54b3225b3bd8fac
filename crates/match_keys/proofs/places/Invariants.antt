use Prim.Native.Nat.{◌≤◌}
use Rattle.match_keys.proofs.places.Given as goal

abbrev pub invariant-loop-w : goal.invariant-loop-w
invariant-loop-w l = l.w ≤ 4096

abbrev pub decreases-loop-w : goal.decreases-loop-w
decreases-loop-w l = l.w
