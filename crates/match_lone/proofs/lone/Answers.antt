use Rattle.match_lone.specs.laws.Lone.{settles-self, lone-silent, lone-symbol}
use Rattle.match_lone.proofs.lone.Goals as goal

pub returns-then-word-eq0 : goal.returns-then-word-eq0
returns-then-word-eq0 c =
    lone-silent c.args.t.now c.args.mem.now c.args.desk.now c.args.b c.args.x _ _
    (settles-self c.args.t.now c.args.mem.now c.args.b c.args.x _ c.said.ensures c.if-said-ne-TAKES.false) c.word.ensures.0 c.if-word-eq0.true

pub returns-then-single : goal.returns-then-single
returns-then-single c =
    lone-symbol c.args.t.now c.args.mem.now c.args.desk.now c.args.b c.args.x _ _ _ _ _
    (settles-self c.args.t.now c.args.mem.now c.args.b c.args.x _ c.said.ensures c.if-said-ne-TAKES.false) c.look-op.ensures c.if-op-ne-SYMBOL.false
    (c.single.ensures c.if-single.true)
