use Prim.Native.Nat.{◌+◌, ◌-◌, ◌≤◌}
use mathlib.Core.Path.{◌≡◌}
use lib.Dec.{eqb}
use lib.ListN.{length}
use Rattle.match_parts.specs.steps.Lists.{taken_by, run_of}
use Rattle.match_parts.proofs.list_at.Given as goal

abbrev pub invariant-loop-k : goal.invariant-loop-k
invariant-loop-k l =
    (l.ask.p ≤ l.q) × (l.q ≤ length l.s) × (l.kind ≡ 3 → l.q ≡ l.ask.p)
    × (run_of (eqb l.kind 3) l.t l.s l.cells l.ask.n l.lists (l.ask.i + 2) l.ask.p l.k (taken_by (eqb l.kind 3) (l.q - l.ask.p))
    ≡ run_of (eqb l.kind 3) l.t l.s l.cells l.ask.n l.lists (l.ask.i + 2) l.ask.p l.count (taken_by (eqb l.kind 3) 0))
