use Rattle.read_order.specs.steps.Order.{Bounded, Fits}
use Rattle.read_names.specs.steps.Lefts.{second4, Upto}
use Rattle.read_names.proofs.lefts.second_from.Given as goal

abbrev pub invariant-loop : goal.invariant-loop
invariant-loop l = Fits l.text l.a × Bounded l.text l.low × Upto l.mode l.text (second4 l.mode l.text) l.low l.limit
