use mathlib.Core.Path.{◌≡◌}
use Prim.Native.Nat.{◌-◌, ◌≤◌, ◌<◌}
use Rattle.lake_step_one.proofs.laws.Water.{Sought}
use Rattle.grammar_table.specs.Table.{symbol_count}
use Rattle.grammar.specs.Numbers.{Grammar}
use Rattle.grammar_table.specs.Holds.{Holds}
use Rattle.lake_step_one.proofs.water.Given as goal

abbrev pub invariant-loop-s : goal.invariant-loop-s
invariant-loop-s l = (l.from < 4294967296) × ((g : Grammar) → Holds l.t g → l.r ≡ symbol_count l.t → Sought l.t g l.s l.from)
