use mathlib.Core.Path.{refl, ◌∙◌}
use native.Mathlib.Omega.{arith}
use lib.ListN.{drop}
use Rattle.read_tokens.specs.laws.Widths.{width-inside}
use Rattle.read_tokens.proofs.LiteralSteps.{width_of, wide, at-end, at-quote, no_char, one_char}
use Rattle.read_tokens.proofs.chars.literal_at.Goals as goal

pub loop-i-init : goal.loop-i-init
loop-i-init c = (c.requires, omega arith, refl)

pub returns-then-text-i : goal.returns-then-text-i
returns-then-text-i c = at-quote c.args.q c.args.text.now c.loop-i.i c.loop-i.count c.loop-i-test.true c.if-text-i.true ∙ c.loop-i.invariant.2

pub returns-in_err-c : goal.returns-in_err-c
returns-in_err-c c = c.from_residual.ensures ∙ no_char c.args.q c.args.text.now c.loop-i.i c.loop-i.count c.loop-i-test.true c.if-text-i.false c.in_err-c.ensures
    ∙ c.loop-i.invariant.2

pub overflow_add-count : goal.overflow_add-count
overflow_add-count c = omega (
  arith,
  c.loop-i-test.true,
  width_of (drop c.loop-i.i c.args.text.now) c.in_ok-c.ensures,
  width-inside c.args.text.now c.loop-i.i c.loop-i.invariant.0,
  wide (drop c.loop-i.i c.args.text.now) c.in_ok-c.ensures,
  c.loop-i.invariant.0,
  c.loop-i.invariant.1,
)

pub overflow_add-i : goal.overflow_add-i
overflow_add-i c = omega (
  arith,
  c.loop-i-test.true,
  width_of (drop c.loop-i.i c.args.text.now) c.in_ok-c.ensures,
  width-inside c.args.text.now c.loop-i.i c.loop-i.invariant.0,
  wide (drop c.loop-i.i c.args.text.now) c.in_ok-c.ensures,
  c.loop-i.invariant.0,
  c.loop-i.invariant.1,
)

pub loop-i-smaller : goal.loop-i-smaller
loop-i-smaller c = omega (
  arith,
  c.loop-i-test.true,
  width_of (drop c.loop-i.i c.args.text.now) c.in_ok-c.ensures,
  width-inside c.args.text.now c.loop-i.i c.loop-i.invariant.0,
  wide (drop c.loop-i.i c.args.text.now) c.in_ok-c.ensures,
  c.loop-i.invariant.0,
  c.loop-i.invariant.1,
)

pub loop-i-preserved : goal.loop-i-preserved
loop-i-preserved c = (
  omega (
    arith,
    c.loop-i-test.true,
    width_of (drop c.loop-i.i c.args.text.now) c.in_ok-c.ensures,
    width-inside c.args.text.now c.loop-i.i c.loop-i.invariant.0,
    wide (drop c.loop-i.i c.args.text.now) c.in_ok-c.ensures,
    c.loop-i.invariant.0,
    c.loop-i.invariant.1,
  ),
  omega (
    arith,
    c.loop-i-test.true,
    width_of (drop c.loop-i.i c.args.text.now) c.in_ok-c.ensures,
    width-inside c.args.text.now c.loop-i.i c.loop-i.invariant.0,
    wide (drop c.loop-i.i c.args.text.now) c.in_ok-c.ensures,
    c.loop-i.invariant.0,
    c.loop-i.invariant.1,
  ),
  one_char c.args.q c.args.text.now c.loop-i.i c.loop-i.count c.loop-i-test.true c.if-text-i.false c.in_ok-c.ensures ∙ c.loop-i.invariant.2,
)

pub returns : goal.returns
returns c = at-end c.args.q c.args.text.now c.loop-i.i c.loop-i.count c.loop-i-test.false ∙ c.loop-i.invariant.2
