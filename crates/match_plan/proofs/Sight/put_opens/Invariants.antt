use Prim.Native.Nat.{◌+◌, ◌≤◌}
use Rattle.match_plan.proofs.Sight.put_opens.Given as goal

abbrev pub invariant-loop-j : goal.invariant-loop-j
invariant-loop-j l = (l.i ≤ l.at) × (l.at ≤ l.i + l.j)
