use Rattle.std.proofs.Common.{◌≡◌}
use Rattle.tree_summary.specs.steps.Sweeping.{sweep_at, stepped}
use Rattle.tree_summary.proofs.update_all.Given as goal

-- behind i steps: what is known, and the records
abbrev pub invariant-loop-i : goal.invariant-loop-i
invariant-loop-i l = (l.s ≡ sweep_at l.nodes l.symbols l.i) × (l.records ≡ stepped l.nodes l.symbols l.i l.initial.records)
