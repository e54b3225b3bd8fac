use mathlib.Core.Path.{◌≡◌}
use Prim.Native.Nat.{ℕ, ◌-◌, ◌≤◌, ◌<◌}
use lib.ListN.{length, get_or}
use Rattle.lake_rules.specs.Beginning.{nothing}
use Rattle.lake_sets.specs.steps.Steps.{pair_at, Tame, begins_in}
use Rattle.lake_sets.proofs.begin_all.Given as goal

abbrev pub invariant-loop-e : goal.invariant-loop-e
invariant-loop-e l = (length l.sets ≡ length l.initial.sets) × (length l.eps ≡ length l.initial.sets)
    × ((r x : ℕ) → Tame l.t (length l.initial.sets) r x → (j : ℕ) → j < l.e → pair_at l.sets l.eps j ≡ get_or (begins_in l.t l.marks (length l.initial.sets)) j nothing)
