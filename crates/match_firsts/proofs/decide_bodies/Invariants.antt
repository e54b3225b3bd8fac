use Rattle.match_eval.specs.steps.Memory.{Ready}
use Rattle.match_firsts.proofs.decide_bodies.Given as goal

abbrev pub invariant-loop-j : goal.invariant-loop-j
invariant-loop-j l = Ready l.t l.n l.mem
