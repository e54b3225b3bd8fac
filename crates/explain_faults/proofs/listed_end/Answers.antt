use Prim.Native.Nat.{◌+◌}
use mathlib.Core.Path.{sym}
use native.Mathlib.Omega.{arith}
use lib.ListN.{drop}
use Rattle.read_tokens.specs.laws.Widths.{width-inside}
use Rattle.read_tokens.proofs.LiteralSteps.{width_of, wide}
use Rattle.std.proofs.lemmas.Option.{slice_get_within}
use Rattle.explain_faults.proofs.listed_end.Goals as goal

pub overflow_add-end : goal.overflow_add-end
overflow_add-end c = omega (
  arith,
  width-inside c.args.text.now (c.args.at) (omega (arith, c.requires)),
  width_of (drop (c.args.at) c.args.text.now) c.in-Some.ensures,
  wide (drop
      (c.args.at) c.args.text.now) c.in-Some.ensures,
)

pub range_end-requires : goal.range_end-requires
range_end-requires c = slice_get_within c.args.text.now (c.args.at + c.in-Some.c.width) _ (sym c.in-Some-eq45.ensures)

pub returns-in-Some-byte_at : goal.returns-in-Some-byte_at
returns-in-Some-byte_at c = (
  omega (
    arith,
    width-inside c.args.text.now (c.args.at) (omega (arith, c.requires)),
    width_of (drop (c.args.at) c.args.text.now) c.in-Some.ensures,
    wide (drop
        (c.args.at) c.args.text.now) c.in-Some.ensures,
  ),
  omega (
    arith,
    width-inside c.args.text.now (c.args.at) (omega (arith, c.requires)),
    width_of (drop
        (c.args.at) c.args.text.now) c.in-Some.ensures,
    wide (drop (c.args.at) c.args.text.now) c.in-Some.ensures,
  ),
)
