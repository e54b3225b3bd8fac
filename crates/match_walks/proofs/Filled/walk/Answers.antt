use native.Mathlib.Omega.{arith}
use mathlib.Core.Path.{refl, sym, ◌∙◌}
use Rattle.grammar_table.specs.Trees.{tree_of}
use Rattle.match_desk.specs.steps.Desk.{Silent}
use Rattle.match_desk.specs.laws.Learns.{silent-any, silent-other}
use Rattle.match_walks.specs.laws.Ups.{walk-silent, walk-symbol, walk-seq, walk-choice, walk-skip, walk-take, walk_ends, walk_more, walk-plus}
use Rattle.match_walks.proofs.Filled.walk.Goals as goal
use Rattle.match_walks.proofs.Filled.walk.Goals.{then-x-eq0-via-then-x-eq0, then-x-eq0-via-else-x-eq0+then-word-eq0}

pub returns-then-x-eq0 : goal.returns-then-x-eq0
returns-then-x-eq0 c =
    let f = c.args.self.now in
    let silent : Silent (tree_of f.table.now c.args.x) = elim c.then-x-eq0.branch [
      | then-x-eq0-via-then-x-eq0 w ↦ silent-any f.table.now c.args.x w.if-x-eq0.true
      | then-x-eq0-via-else-x-eq0+then-word-eq0 w ↦ c.requires.desk.silent c.args.x c.requires.known (sym w.word.ensures.0 ∙ w.if-word-eq0.true)
    ] in
    rw c.past.ensures (walk-silent f.table.now f.text.now f.cells.now f.n c.args.desk.now c.args.x c.args.p c.requires _ silent refl).2

pub returns-in-1 : goal.returns-in-1
returns-in-1 c =
    let f = c.args.self.now in
    walk-symbol f.table.now f.text.now f.cells.now f.n c.args.desk.now c.args.x c.args.p c.requires
    _ _ _ _ c.look-g.ensures c.in-1.is

pub returns-in-2 : goal.returns-in-2
returns-in-2 c =
    let f = c.args.self.now in
    walk-seq f.table.now f.text.now f.cells.now f.n c.args.desk.now c.args.x c.args.p c.requires
    _ _ _ _ c.look-g.ensures c.in-2.is

pub returns-in-3 : goal.returns-in-3
returns-in-3 c =
    let f = c.args.self.now in
    walk-choice f.table.now f.text.now f.cells.now f.n c.args.desk.now c.args.x c.args.p c.requires
    _ _ _ _ c.look-g.ensures _ c.in-3.is c.choose.ensures

pub returns-then-round-eq0 : goal.returns-then-round-eq0
returns-then-round-eq0 c =
    let f = c.args.self.now in
    walk-skip f.table.now f.text.now f.cells.now f.n c.args.desk.now c.args.x c.args.p c.requires
    _ _ _ _ c.look-g.ensures _ c.in-4.is c.round.ensures c.if-round-eq0.true

pub returns-else-round-eq0 : goal.returns-else-round-eq0
returns-else-round-eq0 c =
    let f = c.args.self.now in
    walk-take f.table.now f.text.now f.cells.now f.n c.args.desk.now c.args.x c.args.p c.requires
    _ _ _ _ c.look-g.ensures _ c.in-4.is c.round.ensures c.if-round-eq0.false

pub returns-then-round-le1 : goal.returns-then-round-le1
returns-then-round-le1 c =
    let f = c.args.self.now in
    walk_ends f.table.now f.text.now f.cells.now f.n c.args.desk.now c.args.x c.args.p c.requires
    _ _ _ _ c.look-g.ensures _ c.in-5.is c.round-in-5.ensures c.if-round-le1.true

pub returns-else-round-le1 : goal.returns-else-round-le1
returns-else-round-le1 c =
    let f = c.args.self.now in
    walk_more f.table.now f.text.now f.cells.now f.n c.args.desk.now c.args.x c.args.p c.requires
    _ _ _ _ c.look-g.ensures _ c.in-5.is c.round-in-5.ensures (omega (arith, c.if-round-le1.false))

pub returns-in-6 : goal.returns-in-6
returns-in-6 c =
    let f = c.args.self.now in
    walk-plus f.table.now f.text.now f.cells.now f.n c.args.desk.now c.args.x c.args.p c.requires
    _ _ _ _ c.look-g.ensures c.in-6.is

pub returns-in_default : goal.returns-in_default
returns-in_default c =
    let f = c.args.self.now in
    let silent = silent-other f.table.now c.args.x _ _ _ _ c.look-g.ensures
    (λ e. omega (arith, e, c)) (λ e. omega (arith, e, c)) (λ e. omega (arith, e, c)) (λ e. omega (arith, e, c)) (λ e. omega (arith, e, c))
    (λ e. omega (arith, e, c)) in
    rw c.past-in_default.ensures (walk-silent f.table.now f.text.now f.cells.now f.n c.args.desk.now c.args.x c.args.p c.requires _ silent refl).2
