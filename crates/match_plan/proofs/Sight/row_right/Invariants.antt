use Rattle.std.proofs.Common.{ℕ, ◌<◌}
use Rattle.match_plan.specs.steps.Checked.{Cell}
use Rattle.match_plan.proofs.Sight.row_right.Given as goal

abbrev pub invariant-loop-r : goal.invariant-loop-r
invariant-loop-r l = let f = l.self in (q : ℕ) → q < l.r → Cell f.table.now f.mem.now l.b l.plan l.o q
