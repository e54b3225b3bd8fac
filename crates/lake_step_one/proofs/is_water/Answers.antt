use Rattle.std.proofs.Common.{arith, rules, tests, refl, sym, ◌∙◌}
use Rattle.std.proofs.lemmas.Iterator.{cases_from_all, YieldsList-from_range}
use Rattle.std.proofs.lemmas.Bool.{eqb-true}
use Rattle.lake_step_one.proofs.laws.Water.{Said, called, other_kind, other_length}
use Rattle.lake_step_one.proofs.is_water.Goals.{then-kind-eq0, else-kind-eq0}
use Rattle.lake_step_one.proofs.is_water.Goals as goal

pub returns-then-name_length-eq5 : goal.returns-then-name_length-eq5
returns-then-name_length-eq5 c = elim c.if-kind-eq0.branch [
  | then-kind-eq0 w ↦ called c.args.t.now c.args.s c.kind.result w.name_length.result c.all.result c.kind.ensures.0 w.name_length.ensures.0 w.if-kind-eq0.true (search rules)
      (cases_from_all _ _ c.all.result (Said c.args.t.now c.args.s) (λ j. Said c.args.t.now c.args.s j → ⊥)
      c.all.ensures.ran (YieldsList-from_range 0 5 5 refl refl) (λ x q k. search (rules, tests)) (λ x q k. search (rules, tests)))
  | else-kind-eq0 w ↦ absurd (w.if-kind-eq0.false (eqb-true c.kind.result 0 (sym w.value-is ∙ c.if-name_length-eq5.true)))
]

pub returns-else-name_length-eq5 : goal.returns-else-name_length-eq5
returns-else-name_length-eq5 c = c.if-name_length-eq5.false ∙ elim c.if-kind-eq0.branch [
  | then-kind-eq0 w ↦ other_length c.args.t.now c.args.s c.kind.result w.name_length.result c.kind.ensures.0 w.name_length.ensures.0 w.if-kind-eq0.true (search rules)
  | else-kind-eq0 w ↦ other_kind c.args.t.now c.args.s c.kind.result c.kind.ensures.0 w.if-kind-eq0.false
]
