use Rattle.std.specs.Prelude.{◌≡◌, length}
use Rattle.replay_lines.proofs.words.Given as goal

abbrev pub invariant-loop-n : goal.invariant-loop-n
invariant-loop-n l = length l.out ≡ length l.initial.out
