use Rattle.std.proofs.Common.{◌+◌, ◌-◌, ◌*◌, ◌≡◌}
use Rattle.grammar_table.specs.Table.{terminals_at, terminal_words, terminal_key}
use Rattle.grammar_table.specs.steps.Rows.{seek}
use Rattle.read_entries.specs.steps.Leaves.{words_of}
use Rattle.read_entries.proofs.leaves.Leaf.find.Given as goal

abbrev pub invariant-loop-i : goal.invariant-loop-i
invariant-loop-i l = seek l.t (words_of l.self) terminal_key terminal_words terminals_at l.count
    ≡ l.i + seek l.t (words_of l.self) terminal_key terminal_words (terminals_at + terminal_words * l.i) (l.count - l.i)
