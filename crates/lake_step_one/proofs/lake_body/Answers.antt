use Rattle.std.proofs.Common.{arith, rules, ◌∙◌}
use Rattle.lake_step_one.specs.steps.Extents.{from_of, end_of}
use Rattle.lake_step_one.proofs.laws.Bodies.{lake-none, lake-dry, lake-both}
use Rattle.lake_step_one.proofs.laws.Extents.{none-end, some-end}
use Rattle.lake_step_one.proofs.lake_body.Goals.{then-is_none-via-then-is_none, then-is_none-via-else-is_none+then-is_none-2}
use Rattle.lake_step_one.proofs.lake_body.Goals as goal

pub returns-then-is_none : goal.returns-then-is_none
returns-then-is_none c = (
  omega (arith, c.copy_body-q.ensures.0, c.copy_body-p.ensures.0),
  elim c.then-is_none.branch [
    | then-is_none-via-then-is_none w ↦ lake-none c.args.t.now c.args.mid.now _ _ _ _ c.args.m c.copy_body-q.new.mid c.copy_body-p.new.mid
        c.copy_body-q.result c.copy_body-p.result c.copy_body-q.ensures.1 c.copy_body-p.ensures.1 (none-end c.args.own (search rules))
    | then-is_none-via-else-is_none+then-is_none-2 w ↦ lake-dry c.args.t.now c.args.mid.now _ _ _ _ c.args.m c.copy_body-q.new.mid c.copy_body-p.new.mid
        c.copy_body-q.result c.copy_body-p.result c.copy_body-q.ensures.1 c.copy_body-p.ensures.1 (none-end c.args.water (search rules))
  ],
)

pub returns : goal.returns
returns c = (
  omega (arith, c.copy_body-q.ensures.0, c.copy_body-p.ensures.0),
  lake-both c.args.t.now c.args.mid.now _ _ _ _ c.args.m c.copy_body-q.new.mid c.copy_body-p.new.mid c.copy_body-q.result c.copy_body-p.result
      c.copy_body-q.ensures.1 c.copy_body-p.ensures.1 c.store_expression.new.t c.cap-x.result c.cap-y.result
      (some-end c.args.own (search rules)) (some-end c.args.water (search rules))
      (λ h. c.cap-x.ensures.1 (omega (arith, c.saturating_sub.ensures)) ∙ c.saturating_sub.ensures)
      (λ h. c.cap-y.ensures.1 (omega (arith, c.saturating_sub-2.ensures)) ∙ c.saturating_sub-2.ensures) c.store_expression.ensures,
)
