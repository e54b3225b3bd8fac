use Prim.Native.Nat.{◌+◌, ◌-◌, ◌*◌, ◌≤◌}
use mathlib.Core.Path.{◌≡◌}
use lib.ListN.{length}
use Rattle.read_grammar.specs.laws.Glue.{LoopC, LoopS}
use Rattle.read_grammar.proofs.Reader.+choice_prefix_primary_sequence.Given as goal

abbrev pub decreases-choice : goal.decreases-choice
decreases-choice l = 5 * (length l.self.now.text.now - l.at) + 4

abbrev pub decreases-prefix : goal.decreases-prefix
decreases-prefix l = 5 * (length l.self.now.text.now - l.at) + 2

abbrev pub decreases-primary : goal.decreases-primary
decreases-primary l = 5 * (length l.self.now.text.now - l.at) + 1

abbrev pub decreases-sequence : goal.decreases-sequence
decreases-sequence l = 5 * (length l.self.now.text.now - l.at) + 3

abbrev pub invariant-choice-loop-at : goal.invariant-choice-loop-at
invariant-choice-loop-at l = (l.initial.i ≤ l.i) × (l.i ≤ length l.self.text.now) × (length l.t ≡ length l.initial.t) × LoopC l.self.mode l.self.text.now l.initial.i l.initial.t l.i l.t

abbrev pub decreases-choice-loop-at : goal.decreases-choice-loop-at
decreases-choice-loop-at l = length l.self.text.now - l.i

abbrev pub invariant-sequence-loop-t : goal.invariant-sequence-loop-t
invariant-sequence-loop-t l = (l.initial.i ≤ l.i) × (l.i ≤ length l.self.text.now) × (length l.t ≡ length l.initial.t) × LoopS l.self.mode l.self.text.now l.initial.i l.initial.t l.i l.t

abbrev pub decreases-sequence-loop-t : goal.decreases-sequence-loop-t
decreases-sequence-loop-t l = length l.self.text.now - l.i
