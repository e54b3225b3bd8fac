use mathlib.Core.Path.{◌≡◌}
use Prim.Native.Nat.{◌-◌, ◌≤◌}
use lib.ListN.{length}
use Rattle.lake_rules.specs.Flows.{given}
use Rattle.lake_sets.specs.steps.Steps.{alt_given, Fine}
use Rattle.lake_sets.proofs.alt_base.Given as goal

abbrev pub invariant-loop-e : goal.invariant-loop-e
invariant-loop-e l = (length l.base ≡ length l.initial.base) × (l.base ≡ given (alt_given l.t l.sets l.eps l.succ l.e) l.initial.base) × Fine l.base
