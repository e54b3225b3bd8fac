use Rattle.lake_step_two.proofs.body.Goals as goal

pub returns-then-lake : goal.returns-then-lake
returns-then-lake c = rw c.if-lake.true c.lake_body.ensures

pub returns-else-lake : goal.returns-else-lake
returns-else-lake c = rw c.if-lake.false (
  c.right_side.ensures.0,
  c.right_side.ensures.1
      c.args.s c.args.among.symbols
      c.args.among.terminals,
)
