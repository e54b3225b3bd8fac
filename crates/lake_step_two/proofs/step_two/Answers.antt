use Rattle.std.proofs.Common.{arith}
use Rattle.lake_step_two.proofs.laws.Stepped.{stepped}
use Rattle.lake_step_two.proofs.step_two.Goals as goal

pub returns : goal.returns
returns c = stepped c.args.t.now c.args.alts.now c.args.out.now c.copy_low.new.mid c.build-count.new.out c.put.new.a
    c.symbols-symbols.result c.terminals-terminals.result c.build-count.result c.cap.result c.min.result
    c.symbols-symbols.ensures.0 c.terminals-terminals.ensures.0 (omega arith) (omega (arith, c.copy_low.auto)) c.copy_low.ensures
    c.build-count.ensures c.cap.ensures.1 c.put.ensures (omega (arith, c.min.ensures))
