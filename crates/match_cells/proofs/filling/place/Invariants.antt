use mathlib.Core.Path.{◌≡◌}
use Prim.Native.Nat.{◌+◌, ◌-◌, ◌≤◌}
use lib.ListN.{length}
use Rattle.grammar_table.specs.Table.{words_from}
use Rattle.grammar_table.specs.Trees.{bodies_of}
use Rattle.match_cells.specs.Cells.{row_of}
use Rattle.match_eval.specs.steps.Memory.{Knows}
use Rattle.match_cells.proofs.filling.place.Given as goal

abbrev pub invariant-loop-j : goal.invariant-loop-j
invariant-loop-j l =
    (l.j ≤ l.n) × (length l.cells ≡ length l.initial.cells)
    × (row_of (bodies_of l.t) l.s l.p (words_from l.order l.j (l.n - l.j)) l.cells ≡ row_of (bodies_of l.t) l.s l.p (words_from l.order 0 l.n) l.initial.cells)
    × Knows l.t l.s l.cells l.n l.mem (l.p + 1) l.p
