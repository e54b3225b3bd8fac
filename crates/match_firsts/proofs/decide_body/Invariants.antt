use Rattle.match_eval.specs.steps.Memory.{Ready}
use Rattle.match_firsts.proofs.decide_body.Given as goal

abbrev pub invariant-loop-x : goal.invariant-loop-x
invariant-loop-x l = Ready l.t l.n l.mem
