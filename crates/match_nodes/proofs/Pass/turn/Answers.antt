use native.Mathlib.Omega.{arith}
use mathlib.Core.Path.{refl}
use Rattle.std.specs.Prelude.{Ok, Err}
use Rattle.std.proofs.lemmas.Result.{err_from_is_err_and}
use Rattle.match_nodes.specs.steps.Passes.{out}
use Rattle.match_nodes.specs.laws.Turns.{rest-able, turned_walk, turned-enter, turned_up, turned-over, turned-level}
use Rattle.match_nodes.specs.laws.Lanes.{turned-lane}
use Rattle.match_nodes.proofs.Pass.turn.Goals as goal

pub enter-requires : goal.enter-requires
enter-requires c =
    let g = c.args.self.now in
    let f = g.filled in
    let st = c.args.st in
    let state = rw c.in-Walk.is at c.requires.1 in
    let a = rest-able f.table.now f.text.now f.cells.now f.n g.room g.write (out c.args.nodes.now (Ok st.at))
    c.args.desk.now 2 st.level st.x st.place state (omega arith) _ c.in-Enter.ensures in
    (c.requires.0, state.desk, state.level, state.small, state.place, a.0, a.1)

pub returns-in_err-enter-in-Enter : goal.returns-in_err-enter-in-Enter
returns-in_err-enter-in-Enter c =
    let g = c.args.self.now in
    let f = g.filled in
    let st = c.args.st in
    let state = rw c.in-Walk.is at c.requires.1 in
    let p = err_from_is_err_and c.from_residual.result c.from_residual.ensures.1 in
    rw (p.1, p.2, c.in-Walk.is) (
      turned-enter f.table.now f.text.now f.cells.now f.n g.room g.write (out c.args.nodes.now (Ok st.at))
          c.args.desk.now 2 st.level st.x st.place state (omega arith) _ c.in-Enter.ensures c.enter.new.nodes c.enter.new.desk
          (Err c.in_err-enter-in-Enter.field-0.0) c.in_err-enter-in-Enter.ensures.0,
      c.in_err-enter-in-Enter.ensures.1,
      c.in_err-enter-in-Enter.ensures.2,
    )

pub returns-in_ok-enter-in-Enter : goal.returns-in_ok-enter-in-Enter
returns-in_ok-enter-in-Enter c =
    let g = c.args.self.now in
    let f = g.filled in
    let st = c.args.st in
    let state = rw c.in-Walk.is at c.requires.1 in
    rw c.in-Walk.is (
      turned-enter f.table.now f.text.now f.cells.now f.n g.room g.write (out c.args.nodes.now (Ok st.at))
          c.args.desk.now 2 st.level st.x st.place state (omega arith) _ c.in-Enter.ensures c.enter.new.nodes c.enter.new.desk (Ok c.in_ok-enter-in-Enter.field-0) c.in_ok-enter-in-Enter.ensures.0,
      c.in_ok-enter-in-Enter.ensures.1,
      c.in_ok-enter-in-Enter.ensures.2,
    )

pub returns-in-Done-walk : goal.returns-in-Done-walk
returns-in-Done-walk c =
    let g = c.args.self.now in
    let f = g.filled in
    let st = c.args.st in
    let state = rw c.in-Walk.is at c.requires.1 in
    rw c.in-Walk.is (
      turned_walk f.table.now f.text.now f.cells.now f.n g.room g.write (out c.args.nodes.now (Ok st.at))
          c.args.desk.now 2 st.level st.x st.place state (omega arith) 1 _ _ c.in-Done-walk.ensures (λ e. omega (arith, e)),
      state.desk,
      λ j l. refl,
    )

pub returns-in-Walk-walk : goal.returns-in-Walk-walk
returns-in-Walk-walk c =
    let g = c.args.self.now in
    let f = g.filled in
    let st = c.args.st in
    let state = rw c.in-Walk.is at c.requires.1 in
    rw c.in-Walk.is (
      turned_walk f.table.now f.text.now f.cells.now f.n g.room g.write (out c.args.nodes.now (Ok st.at))
          c.args.desk.now 2 st.level st.x st.place state (omega arith) 2 _ _ c.in-Walk-walk.ensures (λ e. omega (arith, e)),
      state.desk,
      λ j l. refl,
    )

pub returns-then-st-eq0 : goal.returns-then-st-eq0
returns-then-st-eq0 c =
    let g = c.args.self.now in
    let f = g.filled in
    let st = c.args.st in
    let state = rw c.in-Done.is at c.requires.1 in
    rw c.in-Done.is (
      turned-over f.table.now f.text.now f.cells.now f.n g.room g.write (out c.args.nodes.now (Ok st.at))
          c.args.desk.now 1 st.level st.x st.place state refl 0 c.in-Over.ensures c.if-st-eq0.true,
      state.desk,
      λ j l. refl,
    )

pub returns-else-st-eq0 : goal.returns-else-st-eq0
returns-else-st-eq0 c =
    let g = c.args.self.now in
    let f = g.filled in
    let st = c.args.st in
    let state = rw c.in-Done.is at c.requires.1 in
    rw c.in-Done.is (
      turned-level f.table.now f.text.now f.cells.now f.n g.room g.write (out c.args.nodes.now (Ok st.at))
          c.args.desk.now 1 st.level st.x st.place state refl 0 c.in-Over.ensures _ _ (omega (arith, c.if-st-eq0.false)) c.word-x.ensures.0 c.word-x.ensures.1,
      state.desk,
      λ j l. refl,
    )

pub returns-in-Done-rise : goal.returns-in-Done-rise
returns-in-Done-rise c =
    let g = c.args.self.now in
    let f = g.filled in
    let st = c.args.st in
    let state = rw c.in-Done.is at c.requires.1 in
    rw c.in-Done.is (
      turned_up f.table.now f.text.now f.cells.now f.n g.room g.write (out c.args.nodes.now (Ok st.at))
          c.args.desk.now 1 st.level st.x st.place state refl 1 _ c.in-Done-rise.ensures (λ e. omega (arith, e)) (omega arith),
      state.desk,
      λ j l. refl,
    )

pub returns-in-Walk-2 : goal.returns-in-Walk-2
returns-in-Walk-2 c =
    let g = c.args.self.now in
    let f = g.filled in
    let st = c.args.st in
    let state = rw c.in-Done.is at c.requires.1 in
    rw c.in-Done.is (
      turned_up f.table.now f.text.now f.cells.now f.n g.room g.write (out c.args.nodes.now (Ok st.at))
          c.args.desk.now 1 st.level st.x st.place state refl 2 _ c.in-Walk-rise.ensures (λ e. omega (arith, e)) (omega arith),
      state.desk,
      λ j l. refl,
    )

pub returns-in-Some : goal.returns-in-Some
returns-in-Some c =
    let g = c.args.self.now in
    let f = g.filled in
    let st = c.args.st in
    let state = rw c.in-Done.is at c.requires.1 in
    let u = rw c.in-Some.is at c.in_ok-place-in-Walk-rise.ensures in
    rw c.in-Done.is (
      turned-lane f.table.now f.text.now f.cells.now f.n g.room g.write (out c.args.nodes.now (Ok st.at)) _ c.args.desk.now 1 st.level st.x st.place _ state refl u.1 u.2 u.0,
      state.desk,
      λ j l. refl,
    )

pub returns-in-None : goal.returns-in-None
returns-in-None c =
    let g = c.args.self.now in
    let f = g.filled in
    let st = c.args.st in
    let state = rw c.in-Done.is at c.requires.1 in
    let u = rw c.in-None.is at c.in_ok-place-in-Walk-rise.ensures in
    let h = rw c.if-x-st.true at c.in-Walk-rise.ensures in
    rw (c.in-Done.is, u) (
      turned_up f.table.now f.text.now f.cells.now f.n g.room g.write (out c.args.nodes.now (Ok st.at))
          c.args.desk.now 1 st.level st.x st.place state refl 2 _ h (λ e. omega (arith, e)) (omega arith),
      state.desk,
      λ j l. refl,
    )
