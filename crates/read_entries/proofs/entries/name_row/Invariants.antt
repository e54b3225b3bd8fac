use Prim.Native.Nat.{◌+◌, ◌-◌}
use mathlib.Core.Path.{◌≡◌}
use lib.ListN.{length}
use lib.Seq.{sets}
use Rattle.grammar_table.specs.Table.{symbol_words, words_from}
use Rattle.read_entries.proofs.entries.name_row.Given as goal

abbrev pub invariant-loop-i : goal.invariant-loop-i
invariant-loop-i l = (length l.row ≡ symbol_words) × (sets l.initial.row 4 (words_from l.text l.from l.n) ≡ sets l.row (4 + l.i) (words_from l.text (l.from + l.i) (l.n - l.i)))

abbrev pub decreases-loop-i : goal.decreases-loop-i
decreases-loop-i l = l.n - l.i
