use Rattle.lake_calls.specs.laws.Ordering.{of-count}
use mathlib.Core.Path.{sym, ◌∙◌}
use native.Mathlib.Omega.{arith}
use lib.Seq.{length-take-le}
use Rattle.lake_calls.proofs.ordering.order_front.Goals as goal

pub slice_bounds-order_in-end-2 : goal.slice_bounds-order_in-end-2
slice_bounds-order_in-end-2 c = sym (length-take-le c.args.n
    c.args.marks.now c.requires.1)

pub slice_bounds-order_in-end-4 : goal.slice_bounds-order_in-end-4
slice_bounds-order_in-end-4 c = sym (length-take-le c.args.n
    c.args.next.now c.requires.2)

pub slice_bounds-order_in-end-6 : goal.slice_bounds-order_in-end-6
slice_bounds-order_in-end-6 c = sym (length-take-le c.args.n
    c.args.calls.now c.requires.3)

pub slice_bounds-order_in-end-8 : goal.slice_bounds-order_in-end-8
slice_bounds-order_in-end-8 c = sym (length-take-le c.args.n
    c.args.ranks.now c.requires.4)

pub order_in-requires : goal.order_in-requires
order_in-requires c = (
  omega (
    arith,
    length-take-le c.args.n
        c.args.calls.now
        c.requires.3,
    c.requires.0,
  ),
  length-take-le
      c.args.n
      c.args.marks.now
      c.requires.1 ∙ sym
      (length-take-le c.args.n
      c.args.calls.now
      c.requires.3),
  length-take-le
      c.args.n
      c.args.next.now
      c.requires.2 ∙ sym
      (length-take-le c.args.n
      c.args.calls.now
      c.requires.3),
  length-take-le
      c.args.n
      c.args.ranks.now
      c.requires.4 ∙ sym
      (length-take-le c.args.n
      c.args.calls.now
      c.requires.3),
  omega (
    arith,
    length-take-le c.args.n
        c.args.calls.now
        c.requires.3,
    c.requires.5,
  ),
)

pub returns : goal.returns
returns c = of-count (length-take-le
    c.args.n
    c.args.calls.now
    c.requires.3) c.order_in.ensures
