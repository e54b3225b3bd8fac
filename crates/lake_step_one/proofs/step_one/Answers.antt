use Rattle.std.proofs.Common.{arith}
use Rattle.lake_step_one.proofs.laws.Final.{stepped}
use Rattle.lake_step_one.proofs.step_one.Goals as goal

pub returns-then-r-gt64 : goal.returns-then-r-gt64
returns-then-r-gt64 c = λ g h s. let n : ⊥ = omega (arith, h.few-symbols, c.symbols-r.ensures.0) in absurd n

pub returns : goal.returns
returns c = stepped c.args.t.now c.args.mid.now c.copy_low.new.mid c.build-count.new.mid c.put.new.a c.symbols-r.result _ _
    c.build-count.result c.cap.result c.min.result
    c.symbols-r.ensures.0 (omega arith) (omega (arith, c.copy_low.auto))
    c.copy_low.ensures c.water.ensures
    c.build-count.ensures c.cap.ensures.1 c.put.ensures (omega (arith, c.min.ensures))
