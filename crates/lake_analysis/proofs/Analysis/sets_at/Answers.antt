use Rattle.lake_analysis.specs.laws.Joined.{sets_of}
use Rattle.lake_analysis.proofs.Analysis.sets_at.Goals as goal

pub returns : goal.returns
returns c = sets_of c.args.self.now.sets
    c.args.self.now.eps c.args.self.now.succ
    c.args.alts.now c.args.e _
    c.requires c.set_at.ensures c.flag_at.ensures
    c.set_at-2.ensures c.set_at-3.ensures
