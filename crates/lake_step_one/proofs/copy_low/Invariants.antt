use Rattle.grammar_table.specs.Table.{expressions_at}
use mathlib.Core.Path.{◌≡◌}
use Prim.Native.Nat.{ℕ, ◌-◌, ◌≤◌, ◌<◌}
use lib.ListN.{length, get_or}
use Rattle.lake_step_one.proofs.copy_low.Given as goal

abbrev pub invariant-loop-i : goal.invariant-loop-i
invariant-loop-i l = (length l.mid ≡ length l.initial.mid) × ((j : ℕ) → j < l.i → j < length l.initial.mid → get_or l.mid j 0 ≡ get_or l.t j 0)
