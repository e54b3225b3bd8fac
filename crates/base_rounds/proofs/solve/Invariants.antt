use mathlib.Core.Path.{◌≡◌}
use Prim.Native.Nat.{◌-◌, ◌*◌}
use lib.ListN.{length}
use Rattle.base_rounds.specs.laws.Sys.{round_at, Moved}
use Rattle.base_rounds.proofs.solve.Given as goal

abbrev pub invariant-loop-k : goal.invariant-loop-k
invariant-loop-k l = (l.cur ≡ round_at l.src l.dst l.base l.k) × Moved l.src l.dst l.base l.k × (length l.cur ≡ length l.base) × (length l.next ≡ length l.base)

abbrev pub decreases-loop-k : goal.decreases-loop-k
decreases-loop-k l = length l.base * 128 - l.k
