use Prim.Native.Nat.{◌≤◌}
use Rattle.match_plan.proofs.plan_all.Given as goal

abbrev pub invariant-loop-b : goal.invariant-loop-b
invariant-loop-b l = l.at ≤ 5120
