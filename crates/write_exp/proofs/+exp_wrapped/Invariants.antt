use Prim.Native.Nat.{◌+◌, ◌-◌}
use Rattle.write_exp.proofs.+exp_wrapped.Given as goal

abbrev pub decreases-exp : goal.decreases-exp
decreases-exp l = l.x + l.x

abbrev pub decreases-wrapped : goal.decreases-wrapped
decreases-wrapped l = l.x + l.x + 1
