use Rattle.std.proofs.Common.{arith, rules, tests, refl, ◌≡◌, ◌+◌, get_or}
use Rattle.std.proofs.lemmas.Iterator.{cases_from_all, YieldsList-from_range}
use Rattle.grammar_table.proofs.Steps.{same-by}
use Rattle.grammar_table.proofs.same_words.Goals as goal

pub returns : goal.returns
returns c =
    same-by c.args.a.now c.args.i c.args.b.now c.args.j c.args.n c.all.result
    (cases_from_all _ _ c.all.result (λ k. get_or c.args.a.now (c.args.i + k) 0 ≡ get_or c.args.b.now (c.args.j + k) 0)
    (λ k. get_or c.args.a.now (c.args.i + k) 0 ≡ get_or c.args.b.now (c.args.j + k) 0 → ⊥)
    c.all.ensures.ran (YieldsList-from_range 0 c.args.n c.args.n refl (omega arith)) (λ x q k. search (rules, tests)) (λ x q k. search (rules, tests)))
