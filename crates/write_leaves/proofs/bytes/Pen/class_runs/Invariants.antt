use Rattle.std.proofs.Common.{◌≡◌, ◌<◌, IfSome}
use Rattle.std.proofs.Math.Option.{none}
use Rattle.grammar_table.specs.Table.{marks_from}
use Rattle.write_rules.specs.Writing.{runs, runs_text}
use Rattle.write_leaves.specs.steps.Pen.{after}
use Rattle.write_leaves.specs.steps.Printed.{rest_of}
use Rattle.write_leaves.proofs.bytes.Pen.class_runs.Given as goal

abbrev pub invariant-loop-b : goal.invariant-loop-b
invariant-loop-b l = IfSome l.run (λ lo. lo < l.b) × (after l.self (rest_of l.t l.i l.run l.b) ≡ after l.initial.self (runs_text (runs none 0 (marks_from l.t l.i 256))))
