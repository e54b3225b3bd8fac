use Prim.Native.Nat.{ℕ, ◌<◌}
use mathlib.Core.Path.{◌≡◌}
use mathlib.Core.Bool.{false}
use Rattle.grammar.specs.Same.{same_symbol}
use Rattle.grammar_table.specs.Table.{name_in}
use Rattle.lake_step_one.specs.Intermediate.{water_name}
use Rattle.match_lake.proofs.water_at.Given as goal

abbrev pub invariant-loop-i : goal.invariant-loop-i
invariant-loop-i l = (j : ℕ) → j < l.i → same_symbol water_name (name_in l.t j) ≡ false
