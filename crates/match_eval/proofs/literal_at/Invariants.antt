use Rattle.std.proofs.Common.{◌+◌, ◌-◌, ◌≤◌, ◌≡◌, length}
use Rattle.grammar_table.specs.Table.{words_from}
use Rattle.match_eval.specs.Eval.{stands}
use Rattle.match_eval.proofs.literal_at.Given as goal

abbrev pub invariant-loop-k : goal.invariant-loop-k
invariant-loop-k l = (l.p + l.k ≤ length l.s) × (stands l.s (l.p + l.k) (words_from l.t (l.i + l.k) (l.n - l.k)) ≡ stands l.s l.p (words_from l.t l.i l.n))
