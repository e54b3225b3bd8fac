use Rattle.std.specs.Prelude.{◌≡◌, ◌+◌, ◌-◌, ◌*◌}
use Rattle.grammar_table.specs.steps.Rows.{seek}
use Rattle.grammar_table.proofs.find.Given as goal

abbrev pub invariant-loop-i : goal.invariant-loop-i
invariant-loop-i l = seek l.t l.rec l.o l.width l.base l.n ≡ l.i + seek l.t l.rec l.o l.width (l.base + l.width * l.i) (l.n - l.i)
