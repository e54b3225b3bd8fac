use Rattle.std.proofs.Common.{arith}
use Rattle.lake_step_one.proofs.laws.Bodies.{plain_body}
use Rattle.lake_step_one.proofs.body.Goals as goal

pub returns-then-lake : goal.returns-then-lake
returns-then-lake c = rw c.if-lake.true c.lake_body.ensures

pub returns-else-lake : goal.returns-else-lake
returns-else-lake c = rw c.if-lake.false (
  omega (arith, c.copy_body.ensures.0),
  plain_body c.args.t.now c.args.mid.now _ _ _ _ c.args.m c.copy_body.new.mid c.copy_body.result c.copy_body.ensures.1,
)
