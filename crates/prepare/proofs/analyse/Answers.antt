use native.Mathlib.Omega.{arith}
use Rattle.prepare.proofs.analyse.Goals as goal

pub returns-then-n-gt1024 : goal.returns-then-n-gt1024
returns-then-n-gt1024 c = record { stepped = c.step_one-n.ensures; fronted = λ h. absurd (omega (arith, h, c.if-n-gt1024.true)) }

pub returns : goal.returns
returns c = record { stepped = c.step_one-n.ensures; fronted = λ _. c.analyse_table-rounds.ensures }
