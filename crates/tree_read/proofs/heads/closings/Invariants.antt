use Rattle.tree_read.specs.laws.Heads.{Closing}
use Rattle.tree_read.proofs.heads.closings.Given as goal

abbrev pub invariant-loop-value : goal.invariant-loop-value
invariant-loop-value l = Closing l.json l.c l.at l.value l.place
