use lib.Seq.{length-take-le}
use mathlib.Core.Path.{sym}
use Prim.Native.Nat.{◌-◌}
use lib.ListN.{length}
use Rattle.lake_sets.specs.laws.Edges.{shaped}
use Rattle.lake_sets.proofs.rounds.Goals as goal

pub slice_bounds-solve-end : goal.slice_bounds-solve-end
slice_bounds-solve-end c = sym (length-take-le c.args.m c.args.src.now c.requires.src-long)

pub slice_bounds-solve-end-2 : goal.slice_bounds-solve-end-2
slice_bounds-solve-end-2 c = sym (length-take-le c.args.m c.args.dst.now c.requires.dst-long)

pub solve-requires : goal.solve-requires
solve-requires c = (
  shaped c.args.src.now c.args.dst.now
      c.args.m c.args.base.now
      (length c.args.cur.now) (length c.args.next.now)
      c.requires,
  c.requires.cur-long,
  c.requires.next-long,
  c.requires.few,
  c.requires.fine,
)
