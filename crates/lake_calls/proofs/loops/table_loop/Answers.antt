use Rattle.lake_calls.specs.laws.LoopsLoops.{looped-all}
use Rattle.lake_calls.proofs.loops.table_loop.Goals as goal

pub returns : goal.returns
returns c = rw c.unwrap_or.ensures (looped-all c.args.t.now c.symbols-n.result
    c.loop_front.result c.symbols-n.ensures.0 c.loop_front.ensures)
