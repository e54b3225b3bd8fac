use Rattle.std.proofs.Common.{arith, rules, tests, refl, ◌≡◌, ◌+◌, true, false}
use Rattle.std.proofs.lemmas.Iterator.{cases_from_all, YieldsList-from_range}
use Rattle.grammar_table.specs.Table.{leaf_in}
use Rattle.match_lake.specs.Asking.{terminal_fails}
use Rattle.match_lake.specs.laws.Asks.{terminals_from, terminals-more, terminals-end, all-by}
use Rattle.match_lake.proofs.terminals_fail.Goals as goal

pub returns : goal.returns
returns c = λ cells n.
    let a = c.args in
    all-by (λ i. terminal_fails a.s.now cells n a.alt (64 + i) (leaf_in a.t.now i) a.p) (terminals_from a.s.now cells n a.p a.alt a.t.now a.m) a.m
    (terminals-more a.s.now cells n a.p a.alt a.t.now a.m) (terminals-end a.s.now cells n a.p a.alt a.t.now a.m) c.all.result
    (cases_from_all _ _ c.all.result (λ i. terminal_fails a.s.now cells n a.alt (64 + i) (leaf_in a.t.now i) a.p ≡ true)
    (λ i. terminal_fails a.s.now cells n a.alt (64 + i) (leaf_in a.t.now i) a.p ≡ false)
    c.all.ensures.ran (YieldsList-from_range 0 a.m a.m refl (omega arith)) (λ x q k. search (rules, tests)) (λ x q k. search (rules, tests)))
