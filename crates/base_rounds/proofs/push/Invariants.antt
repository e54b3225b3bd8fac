use Rattle.std.specs.Prelude.{◌≡◌, length}
use Rattle.base_rounds.specs.laws.Sys.{pushed}
use Rattle.base_rounds.proofs.push.Given as goal

abbrev pub invariant-loop-from : goal.invariant-loop-from
invariant-loop-from l = (length l.new ≡ length l.initial.new) × (l.new ≡ pushed l.src l.dst (length l.yielded) l.old l.initial.new)
