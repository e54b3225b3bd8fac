use Prim.Native.Nat.{◌-◌, ◌≤◌}
use lib.ListN.{length}
use Rattle.read_walks.specs.laws.Offences.{Walking}
use Rattle.read_walks.proofs.second_walked.Given as goal

abbrev pub invariant-loop-mode : goal.invariant-loop-mode
invariant-loop-mode l = (l.at ≤ length l.text) × Walking l.mode l.text l.at

abbrev pub decreases-loop-mode : goal.decreases-loop-mode
decreases-loop-mode l = length l.text - l.at
