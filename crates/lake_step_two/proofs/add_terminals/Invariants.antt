use mathlib.Core.Path.{◌≡◌}
use Prim.Native.Nat.{ℕ, ◌+◌, ◌*◌, ◌-◌, ◌≤◌}
use lib.ListN.{length}
use Rattle.lake_step_two.specs.steps.Skips.{each, terminal_of, Adds, Numbered}
use Rattle.read_tokens.specs.Token.{Leaf}
use Rattle.lake_step_two.proofs.add_terminals.Given as goal

abbrev pub invariant-loop-i : goal.invariant-loop-i
invariant-loop-i l = (l.m ≤ l.from + 2 * l.i) × (length l.out ≡ length l.initial.out) ×
    ((number : Leaf → ℕ) (leaf : ℕ → Leaf) → Numbered number leaf l.n → Adds number (each (terminal_of leaf l.s) l.i) l.o l.initial.out l.from l.out l.m)
