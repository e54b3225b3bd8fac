use Rattle.match_eval.specs.steps.Memory.{Knows, Front}
use Rattle.match_rounds.proofs.learn_all.Given as goal

abbrev pub invariant-loop-k : goal.invariant-loop-k
invariant-loop-k l = Knows l.t l.s l.cells l.n l.mem l.p l.p × Front l.initial.mem l.mem
