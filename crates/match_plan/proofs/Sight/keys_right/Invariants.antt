use Prim.Native.Nat.{ℕ, ◌+◌, ◌≤◌, ◌<◌}
use lib.ListN.{get_or}
use Rattle.match_plan.specs.steps.Checked.{Task}
use Rattle.match_plan.proofs.Sight.keys_right.Given as goal

abbrev pub invariant-loop-j : goal.invariant-loop-j
invariant-loop-j l = ((q : ℕ) → q < l.j → l.lo ≤ q → Task l.self.mem.now (get_or l.plan (l.i + q) 0))
