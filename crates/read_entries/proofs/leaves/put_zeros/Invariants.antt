use Rattle.std.proofs.Common.{◌+◌, ◌-◌, ◌≡◌}
use Rattle.std.proofs.lemmas.List.Edits.{sets}
use Rattle.read_entries.specs.steps.Leaves.{zeros}
use Rattle.read_entries.proofs.leaves.put_zeros.Given as goal

abbrev pub invariant-loop-i : goal.invariant-loop-i
invariant-loop-i l = sets l.initial.t l.at (zeros l.n) ≡ sets l.t (l.at + l.i) (zeros (l.n - l.i))
