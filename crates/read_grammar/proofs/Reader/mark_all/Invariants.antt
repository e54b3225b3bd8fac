use Rattle.std.proofs.Common.{◌-◌, ◌≤◌, ◌≡◌, length}
use Rattle.read_grammar.specs.steps.Promises.{every_of}
use Rattle.read_grammar.specs.laws.Marks.{LoopN}
use Rattle.read_grammar.proofs.Reader.mark_all.Given as goal

abbrev pub invariant-loop-next : goal.invariant-loop-next
invariant-loop-next l = (l.i ≤ length l.self.text.now) × (length l.t ≡ length l.initial.t) × LoopN (every_of l.asked) l.self.mode l.self.text.now l.initial.t l.i l.t

abbrev pub decreases-loop-next : goal.decreases-loop-next
decreases-loop-next l = length l.self.text.now - l.i
