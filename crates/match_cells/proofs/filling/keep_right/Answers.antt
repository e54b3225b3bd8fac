use Prim.Native.Nat.{ℕ}
use lib.ListN.{replicate}
use Rattle.match_plan.specs.laws.Plan.{planned-none}
use Rattle.match_cells.specs.laws.Preset.{record-none}
use Rattle.match_cells.specs.laws.Runs.{zeros}
use Rattle.match_cells.proofs.filling.keep_right.Goals as goal

pub returns-then-not-usable : goal.returns-then-not-usable
returns-then-not-usable c = (
  planned-none c.args.t.now c.args.mem.now
      c.args.order.now c.args.n _ (zeros 5120),
  λ b f. absurd (f
      (record-none (replicate {A = ℕ} 5120 0) b (zeros 5120))),
)
