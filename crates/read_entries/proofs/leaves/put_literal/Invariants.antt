use Rattle.std.proofs.Common.{◌+◌, ◌-◌, ◌≡◌, ◌≤◌, length}
use Rattle.std.proofs.lemmas.List.Edits.{sets}
use Rattle.read_entries.specs.steps.Leaves.{spelled}
use Rattle.read_entries.proofs.leaves.put_literal.Given as goal

abbrev pub invariant-loop-i : goal.invariant-loop-i
invariant-loop-i l = (l.p ≤ length l.text)
    × (sets l.initial.t l.at (spelled l.n (256 - l.n) l.text l.from) ≡ sets l.t (l.at + l.i) (spelled (l.n - l.i) (256 - l.n) l.text l.p))
