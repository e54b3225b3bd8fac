use Prim.Native.Nat.{◌*◌, ◌≤◌}
use mathlib.Core.Path.{◌≡◌}
use lib.ListN.{length}
use Rattle.grammar_table.specs.Table.{expression_count}
use Rattle.match_desk.specs.steps.Desk.{Desk}
use Rattle.match_lone.specs.steps.Lanes.{Laid}
use Rattle.match_lone.proofs.lay_all.Given as goal

abbrev pub invariant-loop-e : goal.invariant-loop-e
invariant-loop-e l = (length l.desk ≡ length l.initial.desk) × (l.k ≤ 8) × Desk l.t l.desk (expression_count l.t) × Laid l.t l.mem l.desk (256 * l.k)
