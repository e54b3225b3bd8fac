use mathlib.Core.List.{[]}
use Rattle.grammar.specs.Parts.{Part}
use Rattle.lake_sets.specs.steps.Steps.{Small}
use mathlib.Core.Path.{◌≡◌, refl, ap, ◌∙◌, subst}
use Prim.Native.Nat.{◌-◌}
use mathlib.Core.Bool.{false}
use lib.ListN.{set, length-set}
use Rattle.grammar_table.specs.Table.{part_in}
use Rattle.lake_rules.specs.Beginning.{marked, begin_by}
use Rattle.lake_sets.specs.steps.Steps.{pair_at}
use Rattle.lake_rules.specs.laws.Begins.{set-any, eps-any}
use Rattle.lake_sets.proofs.begin_one.Goals as goal

pub returns : goal.returns
returns c = record {
  set_is = λ h. ap (set c.args.sets.now
      c.args.e)
      (subst (λ (p : Part). Small p → c.begin_set.result ≡ (begin_by (λ x. false)
      (pair_at c.args.sets.now
      c.args.eps.now) p).set) c.node-k.ensures.0
      c.begin_set.ensures h ∙ set-any (λ x. false) (marked c.args.marks.now)
      (pair_at c.args.sets.now
      c.args.eps.now)
      (part_in c.args.t.now c.args.e));
  set_long = simp length-set;
  eps-is = ap (set c.args.eps.now c.args.e)
      (c.begin_eps.ensures ∙ ap (λ (p : Part). (begin_by (marked c.args.marks.now)
      (pair_at [] c.args.eps.now) p).eps)
      c.node-k.ensures.0 ∙ eps-any (marked c.args.marks.now)
      (pair_at [] c.args.eps.now)
      (pair_at c.args.sets.now
      c.args.eps.now) (λ i. refl)
      (part_in c.args.t.now c.args.e));
}
