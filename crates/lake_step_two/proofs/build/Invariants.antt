use mathlib.Core.Path.{◌≡◌}
use Prim.Native.Nat.{◌*◌, ◌-◌, ◌≤◌, ◌<◌}
use lib.ListN.{length}
use Rattle.lake_step_two.specs.steps.Stepped.{Ready, PlainMade}
use Rattle.grammar_table.specs.Table.{symbol_count, terminal_count}
use Rattle.grammar.specs.Numbers.{Grammar}
use Rattle.lake_step_two.proofs.build.Given as goal

abbrev pub invariant-loop-s : goal.invariant-loop-s
invariant-loop-s l = (l.reached.from < 4294967296) × (l.reached.count ≤ l.s * 4294967556) × (length l.out ≡ length l.initial.out)
    × ((g : Grammar) → Ready l.t l.alts g → l.among.symbols ≡ symbol_count l.t → l.among.terminals ≡ terminal_count l.t → PlainMade l.t g 0 0 0 l.initial.out
    → PlainMade l.t g l.s l.reached.from l.reached.count l.out)
