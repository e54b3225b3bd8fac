use Rattle.std.proofs.Common.{arith, sym, ◌∙◌}
use Rattle.lake_step_one.proofs.laws.Extents.{spanned}
use Rattle.lake_step_one.proofs.laws.Water.{sought-start, sought-next, sought-found, sought-none}
use Rattle.lake_step_one.proofs.water.Goals as goal

pub loop-s-init : goal.loop-s-init
loop-s-init c = (omega arith, λ g h e. sought-start c.args.t.now g)

pub returns-then-is_water : goal.returns-then-is_water
returns-then-is_water c = λ g h e. spanned _ c.args.t.now c.loop-s.from c.body.result c.of.result _ c.of.ensures
    (sought-found c.args.t.now g h c.loop-s.s c.loop-s.from c.body.result (omega arith) (c.loop-s.invariant.1 g h e)
    (sym c.is_water.ensures ∙ c.if-is_water.true) c.body.ensures.0)

pub loop-s-preserved : goal.loop-s-preserved
loop-s-preserved c = (
  c.pass-from.ensures.0,
  λ g h e. sought-next c.args.t.now g h c.loop-s.s c.loop-s.from c.pass-from.result (omega arith) (c.loop-s.invariant.1 g h e)
      (sym c.is_water.ensures ∙ c.if-is_water.false) c.pass-from.ensures.1,
)

pub returns : goal.returns
returns c = λ g h e. sought-none c.args.t.now g h c.loop-s.s c.loop-s.from (omega arith) (c.loop-s.invariant.1 g h e)
