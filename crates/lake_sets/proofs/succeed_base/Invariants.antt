use mathlib.Core.Path.{◌≡◌}
use Prim.Native.Nat.{◌-◌, ◌≤◌}
use lib.ListN.{length}
use Rattle.lake_rules.specs.Flows.{given}
use Rattle.lake_sets.specs.steps.Steps.{succeed_given, Fine}
use Rattle.lake_sets.proofs.succeed_base.Given as goal

abbrev pub invariant-loop-e : goal.invariant-loop-e
invariant-loop-e l = (length l.base ≡ length l.initial.base) × (l.base ≡ given (succeed_given l.t l.sets l.e) l.initial.base) × Fine l.base
