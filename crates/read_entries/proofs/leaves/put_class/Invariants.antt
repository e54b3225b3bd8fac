use Rattle.std.proofs.Common.{◌+◌, ◌≡◌, map, drop}
use Rattle.std.proofs.lemmas.List.Edits.{sets}
use Rattle.read_entries.specs.steps.Entries.{bit_of}
use Rattle.read_entries.proofs.leaves.put_class.Given as goal

abbrev pub invariant-loop-i : goal.invariant-loop-i
invariant-loop-i l = sets l.initial.t l.at (map bit_of l.marks) ≡ sets l.t (l.at + l.i) (map bit_of (drop l.i l.marks))
