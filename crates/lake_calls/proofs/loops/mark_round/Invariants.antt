use Prim.Native.Nat.{ℕ, ◌-◌, ◌≤◌, ◌<◌}
use mathlib.Core.Path.{◌≡◌}
use mathlib.Core.Bool.{false}
use lib.ListN.{length, get_or}
use Rattle.read_tokens.specs.Token.{Leaf}
use Rattle.grammar_table.specs.Table.{symbol_word}
use Rattle.grammar.specs.Empty.{has_empty}
use Rattle.lake_rules.specs.Beginning.{marked}
use Rattle.grammar_table.specs.Trees.{tree_of}
use Rattle.lake_calls.specs.steps.Marks.{SoundIn}
use Rattle.lake_calls.proofs.loops.mark_round.Given as goal

abbrev pub invariant-loop-i : goal.invariant-loop-i
invariant-loop-i l = (length l.next ≡ length l.initial.next) × ((number : Leaf → ℕ) (r x : ℕ) → r ≤ 64 → SoundIn number r x l.t (length l.initial.next) →
    (j : ℕ) → j < l.i → get_or l.next j false ≡ has_empty (marked l.marks) (tree_of l.t (symbol_word l.t j 1)))
