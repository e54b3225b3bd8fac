use Prim.Native.Nat.{◌-◌, ◌≤◌}
use mathlib.Core.Path.{◌≡◌}
use lib.ListN.{length}
use Rattle.read_grammar.specs.laws.Rules.{LoopR}
use Rattle.read_grammar.proofs.Reader.rules.Given as goal

abbrev pub invariant-loop-i : goal.invariant-loop-i
invariant-loop-i l = (l.k ≤ l.i) × (l.i ≤ length l.self.text.now) × (length l.t ≡ length l.initial.t) × LoopR l.self.mode l.self.text.now l.initial.t l.i l.k l.t

abbrev pub decreases-loop-i : goal.decreases-loop-i
decreases-loop-i l = length l.self.text.now - l.i
