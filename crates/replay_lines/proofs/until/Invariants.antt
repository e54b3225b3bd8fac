use Rattle.std.proofs.Common.{◌≡◌, ◌+◌, drop}
use Rattle.replay_lines.specs.steps.Fields.{to_space}
use Rattle.replay_lines.proofs.until.Given as goal

abbrev pub invariant-loop-i : goal.invariant-loop-i
invariant-loop-i l = l.i + to_space (drop l.i l.s) ≡ l.at + to_space (drop l.at l.s)
