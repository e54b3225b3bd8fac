use Prim.Native.Nat.{◌+◌, ◌*◌}
use mathlib.Core.Path.{◌≡◌}
use lib.ListN.{length}
use Rattle.grammar_table.specs.Table.{expression_count}
use Rattle.match_desk.specs.steps.Desk.{Desk}
use Rattle.match_lone.specs.steps.Lanes.{Laid}
use Rattle.match_lone.proofs.lay_part.Given as goal

abbrev pub invariant-loop-b : goal.invariant-loop-b
invariant-loop-b l = (length l.desk ≡ length l.initial.desk) × Desk l.t l.desk (expression_count l.t) × Laid l.t l.mem l.desk (256 * l.k + l.b)
