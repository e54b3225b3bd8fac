use Rattle.std.proofs.Common.{arith, rules, tests, refl, sym, ◌≡◌, ◌+◌, get_or}
use Rattle.std.proofs.lemmas.Iterator.{cases_from_all, YieldsList-from_range}
use Rattle.std.proofs.lemmas.List.{length-replicate, get_or-replicate}
use Rattle.read_entries.specs.steps.Leaves.{zeros}
use Rattle.read_entries.proofs.Steps.{same-by}
use Rattle.read_entries.proofs.leaves.are_zeros.Goals as goal

pub returns : goal.returns
returns c =
    same-by c.args.t.now c.args.at c.args.n (zeros c.args.n) (λ k. 0) (length-replicate c.args.n 0) (λ k h. sym (get_or-replicate c.args.n k 0 0 h)) c.all.result
    (cases_from_all _ _ c.all.result (λ k. get_or c.args.t.now (c.args.at + k) 0 ≡ 0) (λ k. get_or c.args.t.now (c.args.at + k) 0 ≡ 0 → ⊥)
    c.all.ensures.ran (YieldsList-from_range 0 c.args.n c.args.n refl (omega arith)) (λ x q k. search (rules, tests)) (λ x q k. search (rules, tests)))
