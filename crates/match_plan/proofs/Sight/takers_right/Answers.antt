use Rattle.std.proofs.Common.{ℕ, ◌+◌, get_or, arith, rules, tests, refl}
use Rattle.std.proofs.lemmas.Iterator.{cases_from_all, YieldsList-from_range}
use Rattle.base_facts.specs.laws.Ranges.{all_passed}
use Rattle.match_plan.specs.steps.Checked.{Taker}
use Rattle.match_plan.proofs.Sight.takers_right.Goals as goal

pub returns : goal.returns
returns c =
    let Yes : ℕ → Type 0 = λ (j : ℕ). Taker c.args.self.now.mem.now c.args.b (get_or c.args.plan.now (c.args.i + j) 0) in
    all_passed Yes (λ x. Unit {0}) c.args.m c.all.result
    (cases_from_all _ _ c.all.result Yes (λ x. Unit {0}) c.all.ensures.ran
    (YieldsList-from_range 0 c.args.m c.args.m refl (omega arith)) (λ x q k. search (rules, tests)) (λ x q k. search (rules, tests)))
