use Rattle.std.proofs.Common.{◌≡◌, ◌+◌, ◌-◌, map}
use Rattle.grammar_table.specs.Table.{words_from}
use Rattle.write_rules.specs.Writing.{lit_chars}
use Rattle.write_leaves.specs.steps.Pen.{after}
use Rattle.write_leaves.specs.steps.Printed.{low}
use Rattle.write_leaves.proofs.bytes.Pen.lit_chars.Given as goal

abbrev pub invariant-loop-j : goal.invariant-loop-j
invariant-loop-j l = after l.self (lit_chars (map low (words_from l.t (l.i + l.j) (l.n - l.j)))) ≡ after l.initial.self (lit_chars (map low (words_from l.t l.i l.n)))
