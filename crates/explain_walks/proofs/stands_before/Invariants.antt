use Prim.Native.Nat.{◌-◌, ◌≤◌}
use Rattle.explain_walks.proofs.stands_before.Given as goal

abbrev pub invariant-loop-at : goal.invariant-loop-at
invariant-loop-at l = l.b.depth ≤ l.at

abbrev pub decreases-loop-at : goal.decreases-loop-at
decreases-loop-at l = l.place - l.at
