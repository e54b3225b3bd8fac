use lib.ListN.{length}
use Rattle.lake_calls.specs.laws.LoopsLoops.{looped}
use Rattle.lake_calls.proofs.loops.loop_in.Goals as goal

pub returns : goal.returns
returns c = looped c.args.t.now
    (length c.args.calls.now)
    (length c.args.marks.now)
    c.loop_at.result _ _ c.requires.1 c.mark_all.ensures
    c.calls_of.ensures c.loop_at.ensures
