use native.Mathlib.Omega.{arith}
use lib.ListN.{length}
use Rattle.lake_calls.specs.laws.Ordering.{order-made}
use Rattle.lake_calls.proofs.ordering.order_in.Goals as goal

pub returns : goal.returns
returns c = order-made c.args.t.now (length
    c.args.calls.now) (length
    c.args.marks.now) _ _ _
    c.args.order.now _ c.order.result
    c.requires.1
    c.mark_all.ensures c.calls_of.ensures
    c.ranks.ensures (omega (
      arith,
      c.ranks.auto.ranks,
      c.requires.3,
    ))
    c.order.ensures.0 c.order.ensures.1
