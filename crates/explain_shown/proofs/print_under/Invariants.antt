use Prim.Native.Nat.{◌≤◌}
use Rattle.explain_shown.proofs.print_under.Given as goal

abbrev pub invariant-loop-i : goal.invariant-loop-i
invariant-loop-i l = l.n ≤ 126
