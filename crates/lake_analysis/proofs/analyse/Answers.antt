use mathlib.Core.Path.{refl, sym}
use native.Mathlib.Omega.{arith}
use lib.ListN.{length}
use Rattle.lake_analysis.specs.laws.Joined.{joined, parted-as}
use Rattle.lake_analysis.proofs.analyse.Goals as goal

pub returns : goal.returns
returns c = parted-as
    c.args.t.now (length
    c.args.sets.now) (length
    c.args.base.now) (length
    c.args.marks.now) (length
    c.args.marks.now) c.alt_all.result
    c.begins.new.marks _
    c.begins.new.sets _
    c.begins.new.eps _
    c.succeed_all.new.cur _ c.alt_all.new.cur _
    c.requires.5 refl refl refl refl refl refl
    (joined
    c.args.t.now (length
    c.args.base.now) (length
    c.args.sets.now) (length c.succeed_all.new.base) (length
    c.args.marks.now)
    c.begins.new.marks
    c.begins.new.sets
    c.begins.new.eps c.succeed_all.new.cur c.alt_all.new.cur
    c.succeed_all.result c.alt_all.result (sym
    c.requires.5) (omega (arith, c.succeed_all.auto))
    c.begins.ensures
    c.succeed_all.ensures c.alt_all.ensures)
