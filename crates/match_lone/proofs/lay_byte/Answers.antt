use native.Mathlib.Omega.{arith}
use mathlib.Core.Path.{refl}
use Rattle.match_desk.specs.laws.Desks.{desk-same}
use Rattle.match_lone.specs.laws.Lanes.{laid_more}
use Rattle.match_lone.proofs.lay_byte.Goals as goal

pub returns : goal.returns
returns c = rw c.put.ensures (
  desk-same c.args.t.now c.args.desk.now _ c.requires.0 c.requires.1 _ _ (omega arith) (omega (arith, c.requires.3, c.requires.4)),
  laid_more c.args.t.now c.args.mem.now c.args.desk.now _ c.requires.5 c.args.k c.args.b _ refl c.requires.4
      (omega (arith, c.requires.0.size, c.requires.3, c.requires.4)) c.lane_word-w.ensures.1,
)
