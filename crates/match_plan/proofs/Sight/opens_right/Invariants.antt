use Prim.Native.Nat.{◌≤◌}
use Rattle.match_plan.specs.steps.Checked.{Opens}
use Rattle.match_plan.proofs.Sight.opens_right.Given as goal

abbrev pub invariant-loop-j : goal.invariant-loop-j
invariant-loop-j l = let f = l.self in (l.k ≤ l.j) × Opens f.table.now f.mem.now f.order.now f.n l.b l.plan l.i l.j l.k
