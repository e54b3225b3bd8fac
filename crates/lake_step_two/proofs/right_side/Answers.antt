use Rattle.std.proofs.Common.{arith, ap}
use Rattle.lake_step_one.specs.steps.Extents.{end_of}
use Rattle.lake_step_two.proofs.laws.Skips.{plain-dot, plain_other}
use Rattle.lake_step_two.proofs.right_side.Goals as goal

pub returns-in_default : goal.returns-in_default
returns-in_default c = (
  omega arith,
  λ s r x. plain-dot c.args.t.now s r x _ _ c.args.m c.args.out.now c.store_expression.new.t (ap end_of c.in_default.is) c.store_expression.ensures,
)
