use mathlib.Core.Path.{◌≡◌}
use Prim.Native.Nat.{ℕ, ◌+◌, ◌-◌, ◌≤◌}
use lib.ListN.{length}
use Rattle.grammar_table.specs.Table.{table_words}
use Rattle.grammar.specs.Exp.{Exp, size}
use Rattle.read_tokens.specs.Token.{Leaf}
use Rattle.lake_step_one.specs.steps.Runs.{PartsRun, Grew}
use Rattle.lake_step_one.proofs.laws.Shifts.{front}
use Rattle.lake_step_one.proofs.copy_run.Given as goal

abbrev pub invariant-loop-j : goal.invariant-loop-j
invariant-loop-j l = (length l.mid ≡ length l.initial.mid)
    × ((number : Leaf → ℕ) (e : Exp ℕ) → size e ≡ l.k → length l.initial.mid ≡ table_words → PartsRun number l.t l.a e → Grew l.initial.mid l.m (front number l.m e l.j) l.mid (l.m + l.j))
