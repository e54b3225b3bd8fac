use Prim.Native.Nat.{◌<◌}
use Rattle.match_walks.specs.steps.Picks.{Chosen}
use Rattle.match_walks.proofs.Filled.choose.Given as goal

abbrev pub invariant-loop-x : goal.invariant-loop-x
invariant-loop-x l = (l.x < 2048) × Chosen l.self.table.now l.self.text.now l.self.cells.now l.self.n l.fn.g.y l.fn.g.z l.p l.x

abbrev pub decreases-loop-x : goal.decreases-loop-x
decreases-loop-x l = l.x
