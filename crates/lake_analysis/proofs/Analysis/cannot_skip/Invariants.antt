use mathlib.Core.Path.{◌≡◌}
use Rattle.lake_analysis.specs.steps.Lent.{skips_in}
use Rattle.lake_analysis.proofs.Analysis.cannot_skip.Given as goal

abbrev pub invariant-loop-n : goal.invariant-loop-n
invariant-loop-n l = l.w ≡ skips_in l.t l.self.marks l.alts l.r l.n
