use Rattle.std.proofs.Common.{◌+◌, ◌-◌, ◌≤◌, ◌≡◌, length}
use Rattle.match_eval.specs.steps.Memory.{rounds_of}
use Rattle.match_eval.proofs.+eval_with_many_round.Given as goal

abbrev pub decreases-eval_with : goal.decreases-eval_with
decreases-eval_with l = l.x + l.x + l.x

abbrev pub decreases-many : goal.decreases-many
decreases-many l = l.x + l.x + l.x + 2

abbrev pub decreases-round : goal.decreases-round
decreases-round l = l.x + l.x + l.x + 1

-- each round takes a byte
abbrev pub invariant-many-loop-n : goal.invariant-many-loop-n
invariant-many-loop-n l = (l.p ≤ l.q) × (l.q ≤ length l.s) × (l.q + rounds_of l.t l.s l.cells l.n l.x l.q ≡ l.p + rounds_of l.t l.s l.cells l.n l.x l.p)

abbrev pub decreases-many-loop-n : goal.decreases-many-loop-n
decreases-many-loop-n l = length l.s - l.q
