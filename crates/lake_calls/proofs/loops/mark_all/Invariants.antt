use Rattle.std.specs.Prelude.{length}
use Rattle.lake_calls.specs.steps.Marks.{After}
use Rattle.lake_calls.proofs.loops.mark_all.Given as goal

abbrev pub invariant-loop : goal.invariant-loop
invariant-loop l = After l.t (length l.fn.marks) l.counter l.marks
