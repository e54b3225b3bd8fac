use Rattle.std.proofs.Common.{◌+◌, ◌-◌, ◌≡◌, ◌≤◌, length}
use Rattle.grammar.specs.Same.{same_bytes}
use Rattle.grammar_table.specs.Table.{words_from}
use Rattle.read_entries.specs.steps.Leaves.{spelled}
use Rattle.read_entries.proofs.leaves.is_literal.Given as goal

abbrev pub invariant-loop-k : goal.invariant-loop-k
invariant-loop-k l = (l.p ≤ length l.text)
    × (same_bytes (words_from l.t l.at 256) (spelled l.n (256 - l.n) l.text l.from)
    ≡ same_bytes (words_from l.t (l.at + l.k) (256 - l.k)) (spelled (l.n - l.k) (256 - l.n) l.text l.p))
