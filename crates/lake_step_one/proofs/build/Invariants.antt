use mathlib.Core.Path.{◌≡◌}
use Prim.Native.Nat.{◌*◌, ◌-◌, ◌≤◌, ◌<◌}
use lib.ListN.{length}
use Rattle.lake_step_one.specs.steps.Made.{Made}
use Rattle.grammar.specs.Numbers.{Grammar}
use Rattle.grammar_table.specs.Holds.{Holds}
use Rattle.grammar_table.specs.Table.{symbol_count}
use Rattle.lake_step_one.specs.Intermediate.{water_in}
use Rattle.grammar.specs.Numbers.{terminal_in}
use Rattle.lake_step_one.specs.steps.Runs.{BodyAt}
use Rattle.lake_step_one.specs.steps.Extents.{from_of, end_of}
use Rattle.lake_step_one.proofs.build.Given as goal

abbrev pub invariant-loop-s : goal.invariant-loop-s
invariant-loop-s l = (l.reached.from < 4294967296) × (l.reached.count ≤ l.s * 12884901888) × (length l.mid ≡ length l.initial.mid)
    × ((g : Grammar) → Holds l.t g → l.r ≡ symbol_count l.t → BodyAt (terminal_in g) l.t (from_of l.water) (end_of l.water) (water_in g) → Made l.t g 0 0 0 l.initial.mid
    → Made l.t g l.s l.reached.from l.reached.count l.mid)
