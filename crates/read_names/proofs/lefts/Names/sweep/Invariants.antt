use Prim.Native.Nat.{◌-◌, ◌≤◌}
use mathlib.Core.Path.{◌≡◌}
use mathlib.Core.Bool.{false}
use lib.ListN.{length}
use Rattle.read_order.specs.steps.Order.{within}
use Rattle.read_names.specs.steps.Lefts.{lacks5}
use Rattle.read_names.specs.laws.Sweeps.{Going, Sweeping}
use Rattle.read_names.proofs.lefts.Names.sweep.Given as goal

abbrev pub invariant-loop-at : goal.invariant-loop-at
invariant-loop-at l =
    let c = l.self.range in
    (l.at ≤ length l.self.text.now) × Sweeping l.self.mode l.self.text.now l.self.names.now c.low c.high l.at l.marks
    × (l.used ≡ false → Going l.self.mode l.self.text.now (lacks5 l.self.mode l.self.text.now) (within l.self.text.now c.low c.high) l.at)

abbrev pub decreases-loop-at : goal.decreases-loop-at
decreases-loop-at l = length l.self.text.now - l.at
