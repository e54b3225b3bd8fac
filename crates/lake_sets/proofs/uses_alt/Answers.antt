use mathlib.Core.Path.{◌≡◌, ap, ◌∙◌}
use Prim.Native.Nat.{◌-◌}
use native.Mathlib.Omega.{arith}
use lib.ListN.{get_or}
use Rattle.base_words.specs.Set.{empty}
use Rattle.grammar_table.specs.Table.{part_in}
use Rattle.lake_rules.specs.Analysis.{uses_alt}
use Rattle.lake_sets.specs.laws.Alts.{uses-none, uses-next}
use Rattle.lake_sets.proofs.uses_alt.Goals as goal

pub loop-e-init : goal.loop-e-init
loop-e-init c = uses-none (part_in c.args.t.now) (λ i. get_or c.args.alts.now i empty) c.args.r

pub loop-e-preserved : goal.loop-e-preserved
loop-e-preserved c =
    uses-next (part_in c.args.t.now) (λ i. get_or c.args.alts.now i empty)
    c.args.r c.loop-e.e c.loop-e.s c.join_use-joined.result c.loop-e.invariant c.join_use-joined.ensures

pub returns : goal.returns
returns c = c.loop-e.invariant ∙ ap (uses_alt (part_in c.args.t.now) (λ i. get_or c.args.alts.now i empty)
    c.args.r) (let q : c.loop-e.e ≡ c.args.n = omega arith in q)
