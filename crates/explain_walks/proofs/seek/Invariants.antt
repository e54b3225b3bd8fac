use Prim.Native.Nat.{◌-◌}
use lib.ListN.{length}
use Rattle.explain_walks.proofs.seek.Given as goal

abbrev pub decreases-loop-at : goal.decreases-loop-at
decreases-loop-at g l = length l.text - l.at
