use native.Mathlib.Omega.{arith}
use Rattle.std.proofs.Common.{rules}
use Rattle.read_tokens.proofs.ClassSteps.{range-filled}
use Rattle.read_tokens.proofs.classes.set_range.Goals as goal

pub returns : goal.returns
returns c = range-filled c.args.lo c.args.hi _ _ c.args.marks.now _ c.requires (omega (arith, c.told-marks, c.ranges.hi)) c.from.ensures
    (omega (arith, c.from.ensures, c.from-2.ensures)) (search rules)
