use native.Mathlib.Omega.{arith}
use Rattle.prepare.specs.laws.Translates.{early-over, translates}
use Rattle.prepare.proofs.translate.Goals as goal

pub returns-then-n-gt1024 : goal.returns-then-n-gt1024
returns-then-n-gt1024 c = early-over c.args.mid.now c.args.alts.now _ c.args.n c.if-n-gt1024.true

pub returns : goal.returns
returns c = translates c.args.mid.now c.args.alts.now _ c.args.n c.step_two.result
    (omega (arith, c.if-n-gt1024.false)) c.step_two.ensures
