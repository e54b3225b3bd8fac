use Prim.Native.Nat.{◌+◌}
use native.Mathlib.Omega.{arith}
use lib.ListN.{drop}
use Rattle.read_tokens.specs.laws.Widths.{width-inside}
use Rattle.read_tokens.proofs.LiteralSteps.{width_of, wide}
use Rattle.explain_faults.proofs.range_end.Goals as goal

pub overflow_add-to : goal.overflow_add-to
overflow_add-to c = omega (
  arith,
  width-inside c.args.text.now (c.args.dash + 1) (omega (arith, c.requires)),
  width_of (drop (c.args.dash + 1) c.args.text.now) c.in-Some.ensures,
  wide (drop
      (c.args.dash + 1) c.args.text.now) c.in-Some.ensures,
)

pub returns : goal.returns
returns c = (
  omega (
    arith,
    width-inside c.args.text.now (c.args.dash + 1) (omega (arith, c.requires)),
    width_of (drop (c.args.dash + 1) c.args.text.now) c.in-Some.ensures,
    wide (drop
        (c.args.dash + 1) c.args.text.now) c.in-Some.ensures,
  ),
  omega (
    arith,
    width-inside c.args.text.now (c.args.dash + 1) (omega (arith, c.requires)),
    width_of (drop
        (c.args.dash + 1) c.args.text.now) c.in-Some.ensures,
    wide (drop (c.args.dash + 1) c.args.text.now) c.in-Some.ensures,
  ),
)
