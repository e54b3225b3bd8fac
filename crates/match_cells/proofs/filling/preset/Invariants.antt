use mathlib.Core.Path.{◌≡◌}
use Prim.Native.Nat.{◌≤◌}
use lib.ListN.{length}
use Rattle.match_eval.specs.steps.Firsts.{preset_of}
use Rattle.match_cells.specs.steps.Runs.{Open}
use Rattle.match_cells.proofs.filling.preset.Given as goal

abbrev pub invariant-loop-r : goal.invariant-loop-r
invariant-loop-r l = (length l.cells ≡ length l.initial.cells) × (l.r ≤ l.n) × (preset_of l.t l.mem l.b l.i l.r l.cells ≡ preset_of l.t l.mem l.b l.i l.n l.initial.cells) × Open l.t l.mem l.b l.r l.n
    l.open
