use native.Mathlib.Omega.{arith}
use Prim.Native.Nat.{◌+◌}
use Rattle.match_desk.specs.laws.Desks.{desk-same}
use Rattle.match_lone.specs.laws.Lanes.{laid-few, laid-aside}
use Rattle.match_lone.proofs.lay_repeat.Goals as goal

pub returns : goal.returns
returns c = rw c.put.ensures (
  desk-same c.args.t.now _ _ c.lay_part.ensures.0 c.requires.1 _ _ (omega arith) (omega (arith, c.requires.2)),
  laid-few c.args.t.now c.args.mem.now _ _
      (laid-aside c.args.t.now c.args.mem.now _ _ c.lay_part.ensures.1 (2306 + c.args.x) c.args.k (omega (arith, c.if-k-ge-LANES.false))) _ (omega arith),
  omega (arith, c.if-k-ge-LANES.false),
)
