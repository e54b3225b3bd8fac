use Prim.Native.Nat.{◌+◌, ◌≤◌}
use lib.Dec.{eqb}
use Rattle.match_parts.specs.steps.Lists.{Above}
use Rattle.match_parts.proofs.is_of.Given as goal

abbrev pub invariant-loop-j : goal.invariant-loop-j
invariant-loop-j l = (l.y ≤ 4294967296) × Above l.t l.lists (eqb l.kind 3) (l.i + 2) l.x l.j l.y
