use Rattle.match_eval.specs.steps.Memory.{Ready}
use Rattle.match_firsts.proofs.decide_text.Given as goal

abbrev pub invariant-loop-b : goal.invariant-loop-b
invariant-loop-b l = Ready l.t l.n l.mem
