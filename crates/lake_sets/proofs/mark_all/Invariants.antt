use Rattle.std.specs.Prelude.{ℕ, ◌≡◌, length}
use Rattle.lake_sets.specs.steps.Steps.{Tame, marks_in}
use Rattle.lake_sets.proofs.mark_all.Given as goal

abbrev pub invariant-loop : goal.invariant-loop
invariant-loop l = (x : ℕ) → Tame l.t (length l.fn.sets) (length l.fn.marks) x → l.marks ≡ marks_in l.t (length l.fn.sets) (length l.fn.marks) l.counter
