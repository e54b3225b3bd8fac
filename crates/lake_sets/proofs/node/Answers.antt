use Prim.Native.Nat.{ℕ, ◌-◌}
use Rattle.grammar.specs.Parts.{Part}
use mathlib.Core.Path.{ap₂}
use Rattle.grammar_table.specs.Table.{part_by, part_in}
use Prim.Native.Nat.{ℕ, ◌-◌}
use Rattle.lake_sets.proofs.node.Goals as goal

pub returns : goal.returns
unfolding part_in
returns c = (
  ap₂ (λ (f : ℕ → Part) (r : ℕ). f r)
      (ap₂ part_by c.op.ensures.0 c.left.ensures.0) c.right.ensures.0,
  c.left.ensures.1,
)
