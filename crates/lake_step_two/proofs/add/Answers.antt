use mathlib.Core.Path.{◌∙◌}
use mathlib.Core.Bool.{true, false}
use Prim.Native.Nat.{◌-◌}
use native.Mathlib.Omega.{arith}
use Rattle.lake_step_two.proofs.laws.Skips.{added-first, added_next}
use Rattle.lake_step_two.proofs.add.Goals as goal

pub returns-then-m-o : goal.returns-then-m-o
returns-then-m-o c = (
  omega arith,
  added-first c.args.op c.args.x
      c.args.o c.args.m c.args.out.now
      c.store_expression.new.t c.store_expression.ensures c.if-m-o.true,
)

pub returns : goal.returns
returns c = (
  omega arith,
  added_next c.args.op
      c.args.x
      c.args.o
      c.args.m
      c.args.out.now
      c.store_expression.new.t
      c.store_expression.ensures c.store_expression-2.new.t
      c.cap-left.result c.cap.result c.if-m-o.false
      (λ h. c.cap-left.ensures.1 (omega
      (arith, c.saturating_sub.ensures)) ∙ c.saturating_sub.ensures)
      c.cap.ensures.1 c.store_expression-2.ensures,
)
