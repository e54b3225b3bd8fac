use Rattle.std.specs.Prelude.{◌≡◌, Some, drop}
use Rattle.replay_lines.specs.steps.Fields.{field, number_from}
use Rattle.replay_lines.proofs.decimal.Given as goal

abbrev pub invariant-loop-b : goal.invariant-loop-b
invariant-loop-b l = number_from (Some l.v) (drop l.b-index (field l.fn.s l.fn.from l.fn.to)) ≡ number_from (Some 0) (field l.fn.s l.fn.from l.fn.to)
