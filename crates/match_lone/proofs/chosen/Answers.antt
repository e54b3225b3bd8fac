use Rattle.match_lone.specs.laws.Lone.{lone-symbol}
use Rattle.match_lone.proofs.chosen.Goals as goal

pub returns-then-single : goal.returns-then-single
returns-then-single c =
    lone-symbol c.args.t.now c.args.mem.now c.args.desk.now c.args.b c.args.x _ _ _ _ _ c.in_ok-y.ensures c.look-op.ensures c.if-op-eq-SYMBOL.true
    (c.single.ensures c.if-single.true)
