use Rattle.std.proofs.Common.{arith, ap}
use Rattle.lake_step_one.specs.steps.Extents.{end_of}
use Rattle.lake_step_one.proofs.laws.Bodies.{body-none}
use Rattle.lake_step_one.proofs.copy_body.Goals as goal

pub returns-in_default : goal.returns-in_default
returns-in_default c = (omega arith, body-none c.args.t.now c.args.mid.now _ _ c.args.m (ap end_of c.in_default.is))
