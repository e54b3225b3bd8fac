use Prim.Native.Nat.{◌+◌, ◌≤◌}
use Rattle.match_plan.proofs.Sight.put_keys.Given as goal

abbrev pub invariant-loop-k : goal.invariant-loop-k
invariant-loop-k l = (l.i ≤ l.at) × (l.at ≤ l.i + l.k)
