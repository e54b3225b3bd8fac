use mathlib.Core.Path.{◌≡◌}
use Prim.Native.Nat.{◌+◌, ◌-◌, ◌≤◌}
use lib.ListN.{length}
use Rattle.read_tokens.specs.Chars.{single}
use Rattle.read_tokens.specs.steps.Code.{counted}
use Rattle.read_tokens.specs.laws.Passing.{from}
use Rattle.read_tokens.proofs.chars.literal_at.Given as goal

abbrev pub invariant-loop-i : goal.invariant-loop-i
invariant-loop-i l = (l.i ≤ length l.text) × (l.count + l.at ≤ l.i) × (counted l.count (from l.q single l.text l.i) ≡ counted 0 (from l.q single l.text l.at))

abbrev pub decreases-loop-i : goal.decreases-loop-i
decreases-loop-i l = length l.text - l.i
