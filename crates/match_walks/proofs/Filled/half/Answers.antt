use native.Mathlib.Omega.{arith}
use mathlib.Core.Logic.{inl, inr}
use Rattle.match_walks.specs.laws.Picks.{choose-first, choose-left, choose-right}
use Rattle.match_walks.proofs.Filled.half.Goals as goal

pub returns-then-barred : goal.returns-then-barred
returns-then-barred c =
    let f = c.args.self.now in
    (choose-left f.table.now f.text.now f.cells.now f.n c.args.g.y c.args.g.z c.args.p (c.barred.ensures c.if-barred.true), inl (omega arith))

pub returns-in-Some : goal.returns-in-Some
returns-in-Some c =
    let f = c.args.self.now in
    (choose-first f.table.now f.text.now f.cells.now f.n c.args.g.y c.args.g.z c.args.p _ c.in-Some.ensures, inl c.in-Some.ensures.small)

pub returns-in-None : goal.returns-in-None
returns-in-None c =
    let f = c.args.self.now in
    (choose-right f.table.now f.text.now f.cells.now f.n c.args.g.y c.args.g.z c.args.p c.in-None.ensures, inr (omega arith))
