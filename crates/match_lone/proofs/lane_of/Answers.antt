use Prim.Native.Nat.{◌-◌, ◌*◌}
use native.Mathlib.Omega.{arith}
use Rattle.std.specs.Prelude.{Some}
use Rattle.match_lone.specs.declared.Round.TheVariants.{Silent, Node}
use Rattle.match_lone.proofs.lane_of.Goals as goal

pub returns-in-2 : goal.returns-in-2
returns-in-2 c =
    let u = c.lane_at-w.ensures.0 (omega (arith, c.if-w-about.false)) in
    c.requires.2.says u.0 c.args.b u.1 u.2 c.args.x (Some Silent) (omega arith) (omega (arith, u.3, c.in-2.is, c.if-w-about.false))

pub returns-in_default : goal.returns-in_default
returns-in_default c =
    let u = c.lane_at-w.ensures.0 (omega (arith, c.if-w-about.false)) in
    c.requires.2.says u.0 c.args.b u.1 u.2 c.args.x (Some (Node (c.lane_at-w.result - 8192 * c.args.x - 3)))
    (omega (arith, c, c.if-w-about.false, c.if-w-about-2.false)) (omega (arith, c, u.3, c.if-w-about.false, c.if-w-about-2.false))
