use Rattle.std.proofs.Common.{◌≤◌}
use Rattle.match_parts.proofs.list_all.Given as goal

abbrev pub invariant-loop-r : goal.invariant-loop-r
invariant-loop-r l = l.i ≤ 4096

abbrev pub invariant-loop-k : goal.invariant-loop-k
invariant-loop-k l = l.i ≤ 4096
