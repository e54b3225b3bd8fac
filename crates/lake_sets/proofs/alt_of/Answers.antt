use Rattle.std.proofs.Common.{arith}
use Prim.Native.Nat.{◌-◌}
use mathlib.Core.Bool.{true, false}
use Rattle.lake_sets.specs.steps.Steps.{root_in}
use Rattle.lake_sets.specs.laws.Alts.{alt-none, alt-some}
use Rattle.lake_sets.proofs.alt_of.Goals as goal

pub returns-in-0 : goal.returns-in-0
returns-in-0 c = alt-none c.args.t.now c.args.alts.now c.args.r
    c.body.result (root_in c.args.t.now c.args.r) c.uses_alt.result
    c.body.ensures.0 c.in-0.is c.expressions.result c.expressions.ensures.0 c.uses_alt.ensures

pub returns-in_default : goal.returns-in_default
returns-in_default c = alt-some c.args.t.now c.args.alts.now c.args.r
    c.body.result (root_in c.args.t.now c.args.r) c.set_at.result
    c.body.ensures.0 (λ e. let z : ⊥ = omega (arith, e) in z) c.set_at.ensures
