-- That the names of a range lie in their text is a fact: it holds in one way. Assumes nothing.
use Rattle.std.specs.Prelude.{ℕ, List, Some, None}
use Rattle.std.specs.Coded.{le_prop}
use Rattle.read_order.specs.steps.Order.{Bound, Bounded}
use Rattle.read_names.specs.steps.Lefts.{Ranged}

bounded-prop : (s : List ℕ) (b : Bound) → IsProp (Bounded s b)
bounded-prop s None = hlevel
bounded-prop s (Some v) = hlevel le_prop

pub Ranged-prop : (s a : List ℕ) (low high : Bound) → IsProp (Ranged s a low high)
Ranged-prop s a low high = hlevel (le_prop, bounded-prop s low, bounded-prop s high)
