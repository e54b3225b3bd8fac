use native.Mathlib.Omega.{arith}
use lib.ListN.{drop}
use Rattle.read_tokens.specs.laws.Widths.{width-inside}
use Rattle.read_tokens.proofs.LiteralSteps.{width_of, wide}
use Rattle.explain_faults.proofs.of_literal.Goals as goal

pub overflow_add-i-in-loop-i : goal.overflow_add-i-in-loop-i
overflow_add-i-in-loop-i c = omega (
  arith,
  width-inside c.args.text.now (c.loop-i.i) (omega (arith, c.loop-i-test.true)),
  width_of (drop
      (c.loop-i.i) c.args.text.now) c.in-Some-char_at.ensures,
  wide (drop (c.loop-i.i) c.args.text.now) c.in-Some-char_at.ensures,
)

pub loop-i-smaller : goal.loop-i-smaller
loop-i-smaller c = omega (
  arith,
  width-inside c.args.text.now (c.loop-i.i) (omega (arith, c.loop-i-test.true)),
  width_of (drop (c.loop-i.i) c.args.text.now) c.in-Some-char_at.ensures,
  wide
      (drop (c.loop-i.i) c.args.text.now) c.in-Some-char_at.ensures,
)
