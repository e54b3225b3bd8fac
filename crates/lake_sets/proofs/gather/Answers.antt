use mathlib.Core.List.{[]}
use mathlib.Core.Path.{refl}
use Prim.Native.Nat.{◌-◌}
use mathlib.Core.Bool.{false}
use native.Mathlib.Omega.{arith}
use lib.ListN.{length, length-set}
use Rattle.lake_rules.specs.Beginning.{root_eps}
use Rattle.lake_sets.specs.steps.Steps.{pair_at, root_in}
use Rattle.base_rounds.proofs.laws.Fill.{fill_more}
use Rattle.grammar_table.specs.laws.Places.{is-up_to}
use Rattle.lake_sets.proofs.gather.Goals as goal

pub loop-r-init : goal.loop-r-init
loop-r-init c = (refl, λ j p. let z : ⊥ = omega arith in absurd z)

pub loop-r-preserved : goal.loop-r-preserved
loop-r-preserved c = (
  simp length-set c.loop-r.invariant.0,
  fill_more false
      (λ j. root_eps (pair_at [] c.args.eps.now) (root_in c.args.t.now j))
      c.loop-r.marks c.loop-r.r c.body_eps.result c.loop-r.invariant.1 (omega arith)
      c.body_eps.ensures,
)

pub returns : goal.returns
returns c = is-up_to false (λ j. root_eps (pair_at [] c.args.eps.now) (root_in c.args.t.now j))
    c.loop-r.marks (length c.args.marks.now) (omega arith) (λ i p. c.loop-r.invariant.1 i (omega arith))
