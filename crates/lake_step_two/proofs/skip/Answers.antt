use mathlib.Core.Path.{◌∙◌}
use mathlib.Core.Bool.{true, false}
use Prim.Native.Nat.{◌-◌}
use native.Mathlib.Omega.{arith}
use Rattle.lake_step_two.proofs.laws.Skips.{skip-none, skip-some}
use Rattle.lake_step_two.proofs.skip.Goals as goal

pub returns-then-p-m : goal.returns-then-p-m
returns-then-p-m c = (
  omega (arith, c.choice-p.ensures.0),
  skip-none
      c.args.t.now
      c.args.s
      c.args.among.symbols
      c.args.among.terminals
      c.args.m c.choice-p.result
      c.args.out.now c.choice-p.new.out
      c.choice-p.ensures.1 c.store_expression.new.t c.if-p-m.true
      c.store_expression.ensures,
)

pub returns : goal.returns
returns c = (
  omega (
    arith,
    c.choice-p.ensures.0,
  ),
  skip-some
      c.args.t.now
      c.args.s
      c.args.among.symbols
      c.args.among.terminals
      c.args.m c.choice-p.result
      c.args.out.now c.choice-p.new.out
      c.choice-p.ensures.1
      c.store_expression-2.new.t
      c.store_expression-3.new.t c.store_expression-4.new.t
      c.cap-l.result c.cap.result
      c.cap-2.result c.if-p-m.false
      (λ h. c.cap-l.ensures.1 (omega
      (arith, c.saturating_sub.ensures)) ∙
      c.saturating_sub.ensures)
      c.store_expression-2.ensures
      c.store_expression-3.ensures c.cap.ensures.1
      c.cap-2.ensures.1 c.store_expression-4.ensures,
)
