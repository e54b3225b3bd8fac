use Rattle.std.proofs.Common.{arith, rules, tests, refl, ◌≡◌, true, false}
use Rattle.std.proofs.lemmas.Iterator.{cases_from_any, YieldsList-from_range}
use Rattle.lake_analysis.specs.steps.Lent.{hit_in}
use Rattle.lake_analysis.specs.laws.Skip.{blocked-by}
use Rattle.lake_analysis.proofs.Analysis.blocked.Goals as goal

pub returns : goal.returns
returns c = blocked-by c.args.t.now c.args.self.now.marks c.args.s c.args.r c.any.result
    (cases_from_any _ _ c.any.result (λ k. hit_in c.args.t.now c.args.self.now.marks c.args.s k ≡ true) (λ k. hit_in c.args.t.now c.args.self.now.marks c.args.s k ≡ false)
    c.any.ensures.ran (YieldsList-from_range 0 c.args.r c.args.r refl (omega arith)) (λ x q k. search (rules, tests)) (λ x q k. search (rules, tests)))
