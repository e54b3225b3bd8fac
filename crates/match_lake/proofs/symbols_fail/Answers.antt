use Rattle.std.proofs.Common.{arith, rules, tests, refl, ◌≡◌, ◌+◌, true, false}
use Rattle.std.proofs.lemmas.Iterator.{cases_from_all, YieldsList-from_range}
use Rattle.grammar_table.specs.Table.{name_in}
use Rattle.match_lake.specs.Asking.{symbol_fails}
use Rattle.match_lake.specs.laws.Asks.{symbols_from, symbols-more, symbols-end, all-by}
use Rattle.match_lake.proofs.symbols_fail.Goals as goal

pub returns : goal.returns
returns c =
    let a = c.args in
    all-by (λ i. symbol_fails a.s.now a.cells.now a.n a.alt i (name_in a.t.now i) a.p) (symbols_from a.s.now a.cells.now a.n a.p a.alt a.t.now a.n) a.n
    (symbols-more a.s.now a.cells.now a.n a.p a.alt a.t.now a.n) (symbols-end a.s.now a.cells.now a.n a.p a.alt a.t.now a.n) c.all.result
    (cases_from_all _ _ c.all.result (λ i. symbol_fails a.s.now a.cells.now a.n a.alt i (name_in a.t.now i) a.p ≡ true)
    (λ i. symbol_fails a.s.now a.cells.now a.n a.alt i (name_in a.t.now i) a.p ≡ false)
    c.all.ensures.ran (YieldsList-from_range 0 a.n a.n refl (omega arith)) (λ x q k. search (rules, tests)) (λ x q k. search (rules, tests)))
