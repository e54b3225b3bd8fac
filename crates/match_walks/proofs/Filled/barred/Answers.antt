use native.Mathlib.Omega.{arith}
use mathlib.Core.Path.{sym, ◌∙◌}
use borrow.Author.Tests.{eqb-true}
use Rattle.match_eval.proofs.laws.Memory.{knows-from, said-right}
use Rattle.match_walks.proofs.Filled.barred.Goals as goal

pub returns : goal.returns
returns c = λ e.
    let f = c.args.self.now in
    let u = eqb-true c.said.result 1 e in
    sym (said-right f.table.now f.text.now f.cells.now f.mem.now f.n 0 c.args.p
    (knows-from f.table.now f.text.now f.cells.now f.mem.now f.n 0 0 0 c.args.p (omega arith) (omega arith) f.known) c.args.x _ 1 c.requires c.byte_at.ensures.0
    (sym u ∙ c.said.ensures) (λ z. omega (arith, z)))
