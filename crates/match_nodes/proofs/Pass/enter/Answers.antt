use native.Mathlib.Omega.{arith}
use Prim.Native.Nat.{◌+◌}
use mathlib.Core.Path.{refl, sym, ◌∙◌}
use lib.Seq.{get_or-set_other}
use Rattle.std.proofs.lemmas.Result.{err_from_is_err_and}
use Rattle.match_eval.proofs.laws.Within.{cell-within}
use Rattle.match_desk.specs.laws.Desks.{desk-stays}
use Rattle.match_nodes.specs.laws.Turns.{symbol-in, enter-stopped, passed, entered}
use Rattle.match_nodes.proofs.Pass.enter.Goals as goal

pub overflow_add-end : goal.overflow_add-end
overflow_add-end c =
    let f = c.args.self.now.filled in
    omega (arith, c.cell_at.ensures, cell-within f.text.now f.cells.now f.n c.args.symbol c.args.from.place c.requires.4, f.short)

pub body-body-requires : goal.body-body-requires
body-body-requires c =
    let f = c.args.self.now.filled in
    omega (arith, symbol-in f.table.now f.text.now f.cells.now f.n c.requires.0 c.args.symbol c.args.from.place c.requires.5, f.few)

pub note-requires : goal.note-requires
note-requires c =
    let f = c.args.self.now.filled in
    omega (
      arith,
      c.cell_at.ensures,
      cell-within f.text.now f.cells.now f.n c.args.symbol c.args.from.place c.requires.4,
      f.short,
      symbol-in f.table.now f.text.now f.cells.now f.n c.requires.0 c.args.symbol c.args.from.place c.requires.5,
      f.few,
      c.requires.2,
      c.requires.4,
    )

pub returns-in_err-at : goal.returns-in_err-at
returns-in_err-at c =
    let g = c.args.self.now in
    let f = g.filled in
    let e = c.args.from in
    let p = err_from_is_err_and c.from_residual.result c.from_residual.ensures.1 in (
      rw (p.1, p.2) (enter-stopped f.table.now f.text.now f.cells.now f.n c.requires.0 g.room g.write e.level c.args.symbol e.place _ _ e.at
          c.args.nodes.now _ c.requires.4 c.requires.5 c.requires.2 c.cell_at.ensures c.body-body.ensures.0 _ c.in_err-at.ensures _),
      c.requires.1,
      λ j l. refl,
    )

pub returns-then-word-eq0 : goal.returns-then-word-eq0
returns-then-word-eq0 c =
    let g = c.args.self.now in
    let f = g.filled in
    let e = c.args.from in (
      passed f.table.now f.text.now f.cells.now f.n c.requires.0 g.room g.write e.level c.args.symbol e.place _ _ e.at _ c.args.nodes.now _
          c.requires.4 c.requires.5 c.requires.2 c.cell_at.ensures c.body-body.ensures.0 c.in_ok-at.ensures c.args.desk.now e.x c.requires.1 c.requires.3
          c.requires.6 (c.requires.1.silent _ (omega (
            arith,
            c.body-body.ensures.0,
            c.requires.0.small c.args.symbol (symbol-in f.table.now f.text.now f.cells.now f.n c.requires.0 c.args.symbol e.place c.requires.5),
          )) (sym c.word.ensures.0 ∙ c.if-word-eq0.true)),
      c.requires.1,
      λ j l. refl,
    )

pub returns : goal.returns
returns c =
    let g = c.args.self.now in
    let f = g.filled in
    let e = c.args.from in
    rw c.put.ensures (
      entered f.table.now f.text.now f.cells.now f.n c.requires.0 g.room g.write e.level c.args.symbol e.place _ _ e.at _ c.args.nodes.now _
          c.requires.4 c.requires.5 c.requires.2 c.cell_at.ensures c.body-body.ensures.0 c.in_ok-at.ensures c.args.desk.now e.x c.requires.1 c.requires.3
          c.requires.6,
      desk-stays f.table.now c.args.desk.now _ c.requires.1 c.requires.0.fits e.level e.x c.requires.2,
      λ j l. get_or-set_other c.args.desk.now (1025 + e.level) j e.x 0 (λ q. omega (arith, q, l, c.requires.2)),
    )
