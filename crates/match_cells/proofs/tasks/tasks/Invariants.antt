use Prim.Native.Nat.{◌+◌, ◌-◌, ◌≤◌}
use mathlib.Core.Path.{◌≡◌}
use lib.ListN.{length}
use Rattle.grammar_table.specs.Table.{words_from}
use Rattle.grammar_table.specs.Trees.{bodies_of}
use Rattle.match_eval.specs.steps.Memory.{Knows, Front}
use Rattle.match_cells.specs.Cells.{row_of}
use Rattle.match_cells.proofs.tasks.tasks.Given as goal

abbrev pub invariant-loop-j : goal.invariant-loop-j
invariant-loop-j l =
    (l.j ≤ l.k) × (length l.cells ≡ length l.initial.cells)
    × (row_of (bodies_of l.t) l.s l.p (words_from l.plan (l.i + l.j) (l.i + l.m - (l.i + l.j))) l.cells ≡ row_of (bodies_of l.t) l.s l.p (words_from l.plan l.i l.m) l.initial.cells)
    × Knows l.t l.s l.cells l.n l.mem l.p l.p × (l.j ≤ l.m → Knows l.t l.s l.cells l.n l.mem (l.p + 1) l.p) × Front l.initial.mem l.mem
