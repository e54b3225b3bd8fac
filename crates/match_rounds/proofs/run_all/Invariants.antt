use Rattle.match_eval.specs.steps.Memory.{Knows, Front}
use Rattle.match_rounds.proofs.run_all.Given as goal

abbrev pub invariant-loop-j : goal.invariant-loop-j
invariant-loop-j l = Knows l.t l.s l.cells l.n l.mem l.all.p l.all.p × Front l.initial.mem l.mem
