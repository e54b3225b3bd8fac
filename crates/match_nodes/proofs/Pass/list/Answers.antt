use native.Mathlib.Omega.{arith}
use mathlib.Core.Path.{refl, ap, ◌∙◌}
use Rattle.std.specs.Prelude.{Ok}
use Rattle.std.proofs.lemmas.Result.{err_from_is_err_and}
use Rattle.match_lone.specs.laws.Lanes.{laid-behind}
use Rattle.match_nodes.specs.steps.Passes.{out, run}
use Rattle.match_nodes.specs.laws.Turns.{start-able, start-list, fail-list}
use Rattle.match_nodes.proofs.Pass.list.Goals as goal

pub returns-then-cell_at-eq0 : goal.returns-then-cell_at-eq0
returns-then-cell_at-eq0 c =
    let g = c.args.self.now in
    let f = g.filled in (
      fail-list f.table.now f.text.now f.cells.now f.n g.room g.write _ (out c.args.nodes.now (Ok 0)) c.requires.0.count c.cell_at.ensures c.if-cell_at-eq0.true,
      c.requires.1,
      λ j l. refl,
    )

pub enter-requires : goal.enter-requires
enter-requires c =
    let f = c.args.self.now.filled in (
      c.requires.0,
      c.requires.1,
      omega arith,
      omega arith,
      omega arith,
      λ z. c.if-cell_at-eq0.false (c.cell_at.ensures ∙ z),
      start-able f.table.now f.text.now f.cells.now f.n c.args.desk.now 2047 c.requires.1 c.requires.0.fits (omega arith) _,
    )

pub returns-in_err-first : goal.returns-in_err-first
returns-in_err-first c =
    let g = c.args.self.now in
    let f = g.filled in
    let p = err_from_is_err_and c.from_residual.result c.from_residual.ensures.1 in
    rw (p.1, p.2) (
      c.in_err-first.ensures.0
          ∙ ap (run g.room g.write (out c.args.nodes.now (Ok 0)))
          (start-list f.table.now f.text.now f.cells.now f.n c.args.desk.now 2047 c.requires.1 c.requires.0.fits (omega arith)),
      c.in_err-first.ensures.1,
      c.in_err-first.ensures.2,
    )

pub go_on-requires : goal.go_on-requires
go_on-requires c =
    let f = c.args.self.now.filled in
    (c.requires.0, c.in_ok-first.ensures.0.state, laid-behind f.table.now f.mem.now c.args.desk.now _ c.requires.2 _ c.in_ok-first.ensures.2)

pub returns : goal.returns
returns c =
    let g = c.args.self.now in
    let f = g.filled in (
      c.go_on.ensures.0 ∙ c.in_ok-first.ensures.0.same
          ∙ ap (run g.room g.write (out c.args.nodes.now (Ok 0)))
          (start-list f.table.now f.text.now f.cells.now f.n c.args.desk.now 2047 c.requires.1 c.requires.0.fits (omega arith)),
      c.go_on.ensures.1,
      λ j l. c.go_on.ensures.2 j l ∙ c.in_ok-first.ensures.2 j l,
    )
