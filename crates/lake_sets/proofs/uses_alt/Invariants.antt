use mathlib.Core.Path.{◌≡◌}
use Prim.Native.Nat.{◌-◌, ◌≤◌}
use lib.ListN.{get_or}
use Rattle.base_words.specs.Set.{empty}
use Rattle.grammar_table.specs.Table.{part_in}
use Rattle.lake_rules.specs.Analysis.{uses_alt}
use Rattle.lake_sets.proofs.uses_alt.Given as goal

abbrev pub invariant-loop-e : goal.invariant-loop-e
invariant-loop-e l = l.s ≡ uses_alt (part_in l.t) (λ i. get_or l.alts i empty) l.r l.e
