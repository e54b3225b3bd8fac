use Rattle.std.proofs.Common.{arith}
use Rattle.std.proofs.lemmas.Bool.Decides.{nat_tests}
use Rattle.read_tokens.specs.Bounds.{depth_bound}
use Rattle.tree_list.specs.steps.Gaps.{admits_in}
use Rattle.tree_list.proofs.may_be.Goals as goal

pub returns-then-from-x : goal.returns-then-from-x
unfolding depth_bound admits_in
returns-then-from-x c = grind (arith, nat_tests)

pub returns-else-from-x : goal.returns-else-from-x
unfolding depth_bound admits_in
returns-else-from-x c = grind (arith, nat_tests)
