use Rattle.match_lone.specs.laws.Lone.{settles-self, settled-left, settled-right}
use Rattle.match_lone.proofs.+settle.Goals as goal

pub returns-then-x-eq0 : goal.returns-then-x-eq0
returns-then-x-eq0 t c = settles-self c.args.t.now c.args.mem.now c.args.b c.args.x _ c.said.ensures c.if-said-ne-TAKES.false

pub returns-then-op-ne-CHOICE : goal.returns-then-op-ne-CHOICE
returns-then-op-ne-CHOICE t c = settles-self c.args.t.now c.args.mem.now c.args.b c.args.x _ c.said.ensures c.if-said-ne-TAKES.false

pub returns-then-said-eq-FAILS : goal.returns-then-said-eq-FAILS
returns-then-said-eq-FAILS t c =
    settled-right c.args.t.now c.args.mem.now c.args.b c.args.x _ _ _ _ _ c.said.ensures c.look-op.ensures c.if-op-ne-CHOICE.false c.if-said-ne-TAKES.false
    _ c.said-2.ensures c.if-said-eq-FAILS.true _ c.settle.ensures

pub returns : goal.returns
returns t c =
    settled-left c.args.t.now c.args.mem.now c.args.b c.args.x _ _ _ _ _ c.said.ensures c.look-op.ensures c.if-op-ne-CHOICE.false c.if-said-ne-TAKES.false
    _ c.settle-2.ensures
