use mathlib.Core.Path.{◌≡◌}
use Prim.Native.Nat.{◌-◌}
use Rattle.read_tokens.specs.laws.Turning.{turn_from}
use Rattle.read_tokens.proofs.classes.turn.Given as goal

abbrev pub invariant-loop-mark : goal.invariant-loop-mark
invariant-loop-mark l = turn_from l.mark-index (256 - l.mark-index) l.marks ≡ turn_from 0 256 l.initial.marks
