use Rattle.std.proofs.Common.{ℕ, ◌+◌, get_or, arith, rules, tests, refl}
use Rattle.std.proofs.lemmas.Iterator.{cases_from_all, YieldsList-from_range}
use Rattle.match_eval.specs.steps.Memory.{parts_at}
use Rattle.match_parts.specs.steps.Lists.{Listed}
use Rattle.base_facts.specs.laws.Ranges.{all_passed}
use Rattle.match_parts.proofs.parts_checked.Goals as goal

pub returns : goal.returns
returns c =
    let Yes : ℕ → Type 0 = λ (m : ℕ). Listed c.args.t.now c.args.lists.now (get_or c.args.lists.now (64 + m) 0) (get_or c.args.mem.now (parts_at + m) 0) in
    all_passed Yes (λ x. Unit {0}) c.args.d c.all.result
    (cases_from_all _ _ c.all.result Yes (λ x. Unit {0}) c.all.ensures.ran
    (YieldsList-from_range 0 c.args.d c.args.d refl (omega arith)) (λ x q k. search (rules, tests)) (λ x q k. search (rules, tests)))
