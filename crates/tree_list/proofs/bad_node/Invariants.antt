use Rattle.tree_list.specs.steps.Judging.{Judging}
use Rattle.tree_list.proofs.bad_node.Given as goal

abbrev pub invariant-loop-k : goal.invariant-loop-k
invariant-loop-k l = Judging l.symbols l.n l.nodes l.k l.depths l.gaps
