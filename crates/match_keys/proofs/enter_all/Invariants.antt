use Rattle.match_eval.specs.steps.Memory.{Fresh}
use Rattle.match_keys.proofs.enter_all.Given as goal

abbrev pub invariant-loop-e : goal.invariant-loop-e
invariant-loop-e l = Fresh l.t l.mem
