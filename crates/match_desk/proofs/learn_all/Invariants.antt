use Rattle.std.proofs.Common.{◌≡◌, length}
use Rattle.match_desk.specs.steps.Desk.{Desk}
use Rattle.match_desk.proofs.learn_all.Given as goal

abbrev pub invariant-loop-e : goal.invariant-loop-e
invariant-loop-e l = (length l.desk ≡ length l.initial.desk) × Desk l.t l.desk l.e
