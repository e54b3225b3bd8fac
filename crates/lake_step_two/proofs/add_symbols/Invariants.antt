use mathlib.Core.Path.{◌≡◌}
use Prim.Native.Nat.{ℕ, ◌+◌, ◌*◌, ◌-◌, ◌≤◌}
use lib.ListN.{length}
use Rattle.lake_step_two.specs.steps.Skips.{each, symbol_in, Adds}
use Rattle.read_tokens.specs.Token.{Leaf}
use Rattle.lake_step_two.proofs.add_symbols.Given as goal

abbrev pub invariant-loop-i : goal.invariant-loop-i
invariant-loop-i l = (l.m ≤ l.o + 2 * l.i) × (length l.out ≡ length l.initial.out) × ((number : Leaf → ℕ) → Adds number (each (symbol_in l.t l.s) l.i) l.o l.initial.out l.o l.out l.m)
