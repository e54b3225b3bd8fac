use mathlib.Core.List.{[]}
use mathlib.Core.Path.{◌≡◌}
use Prim.Native.Nat.{ℕ, ◌-◌, ◌≤◌, ◌<◌}
use mathlib.Core.Bool.{false}
use lib.ListN.{length, get_or}
use Rattle.lake_rules.specs.Beginning.{root_eps}
use Rattle.lake_sets.specs.steps.Steps.{pair_at, root_in}
use Rattle.lake_sets.proofs.gather.Given as goal

abbrev pub invariant-loop-r : goal.invariant-loop-r
invariant-loop-r l = (length l.marks ≡ length l.initial.marks) × ((j : ℕ) → j < l.r → get_or l.marks j false ≡ root_eps (pair_at [] l.eps) (root_in l.t j))
