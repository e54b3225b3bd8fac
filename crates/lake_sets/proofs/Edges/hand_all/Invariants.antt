use Rattle.std.specs.Prelude.{◌≡◌, ◌≤◌, ◌*◌, length}
use Rattle.base_rounds.specs.laws.Sys.{edges}
use Rattle.lake_sets.specs.steps.Steps.{handed}
use Rattle.lake_sets.proofs.Edges.hand_all.Given as goal

abbrev pub invariant-loop-e : goal.invariant-loop-e
invariant-loop-e l = (l.self.count ≤ 2 * l.e) × (edges l.self.src l.self.dst l.self.count ≡ handed l.t l.eps l.back (length l.eps) l.e)
