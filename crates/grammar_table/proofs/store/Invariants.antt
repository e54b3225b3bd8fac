use Prim.Native.Nat.{◌+◌, ◌-◌}
use mathlib.Core.Path.{◌≡◌}
use lib.Seq.{sets}
use Rattle.grammar_table.specs.Table.{words_from}
use Rattle.grammar_table.proofs.store.Given as goal

abbrev pub invariant-loop-k : goal.invariant-loop-k
invariant-loop-k l = sets l.initial.to l.at (words_from l.from 0 l.n) ≡ sets l.to (l.at + l.k) (words_from l.from l.k (l.n - l.k))
