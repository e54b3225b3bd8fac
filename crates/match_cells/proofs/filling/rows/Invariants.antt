use mathlib.Core.Path.{◌≡◌}
use Prim.Native.Nat.{◌+◌, ◌≤◌}
use lib.ListN.{length}
use Rattle.grammar_table.specs.Table.{words_from, symbol_count}
use Rattle.grammar_table.specs.Trees.{bodies_of}
use Rattle.match_eval.specs.steps.Memory.{Knows, Front}
use Rattle.match_cells.specs.steps.Runs.{fill_by}
use Rattle.match_cells.proofs.filling.rows.Given as goal

abbrev pub invariant-loop-i : goal.invariant-loop-i
invariant-loop-i l = (l.i ≤ length l.s + 1) × (length l.cells ≡ length l.initial.cells)
    × (fill_by l.t l.initial.mem l.plan (bodies_of l.t) l.s (symbol_count l.t) l.i (words_from l.order 0 (symbol_count l.t)) l.cells
    ≡ fill_by l.t l.initial.mem l.plan (bodies_of l.t) l.s (symbol_count l.t) (length l.s + 1) (words_from l.order 0 (symbol_count l.t)) l.initial.cells)
    × Knows l.t l.s l.cells (symbol_count l.t) l.mem l.i l.i × Front l.initial.mem l.mem
