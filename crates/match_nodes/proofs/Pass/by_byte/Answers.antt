use native.Mathlib.Omega.{arith}
use Rattle.std.specs.Prelude.{Ok}
use Rattle.std.proofs.lemmas.Result.{err_from_is_err_and}
use Rattle.match_nodes.specs.steps.Passes.{out}
use Rattle.match_nodes.specs.laws.Passes.{run_none, run-single}
use Rattle.match_nodes.specs.laws.Lanes.{lone-none, lone-node, lane-step, lane-stops}
use Rattle.match_nodes.proofs.Pass.by_byte.Goals as goal

pub returns-in_err-note-in-Some-Node : goal.returns-in_err-note-in-Some-Node
returns-in_err-note-in-Some-Node c =
    let g = c.args.self.now in
    let f = g.filled in
    let st = c.args.st in
    let said = rw c.in-Some-Node.field-0-is at c.in-Some-Node.ensures in
    let u = lone-node f.table.now f.text.now f.cells.now f.n f.mem.now said.0 c.requires.0 said.1 f.known st.x st.place _ c.requires.3 c.requires.4
    c.byte_at.ensures.0 _ said.2 in
    let p = err_from_is_err_and c.from_residual.result c.from_residual.ensures.1 in
    rw (p.1, p.2) (lane-stops f.table.now f.text.now f.cells.now f.n g.room g.write st.x st.level (out c.args.nodes.now (Ok st.at)) _ _ st.place
    (omega (arith, c.requires.3, c.requires.0.fits)) c.requires.4 u.1
    (run-single g.room g.write (out c.args.nodes.now (Ok st.at)) _ _ _ c.in_err-note-in-Some-Node.ensures (u.2 st.level c.requires.2)))

pub returns-in-Some-Silent : goal.returns-in-Some-Silent
returns-in-Some-Silent c =
    let g = c.args.self.now in
    let f = g.filled in
    let st = c.args.st in
    let said = rw c.in-Some-Silent.field-0-is at c.in-Some-Silent.ensures in
    let u = lone-none f.table.now f.text.now f.cells.now f.n f.mem.now said.0 c.requires.0 said.1 f.known st.x st.place _ c.requires.3 c.requires.4
    c.byte_at.ensures.0 said.2 in
    lane-step f.table.now f.text.now f.cells.now f.n g.room g.write st.x st.level (out c.args.nodes.now (Ok st.at)) (out c.args.nodes.now (Ok st.at)) st.place
    (omega (arith, c.requires.3, c.requires.0.fits)) c.requires.4 u.0
    (run_none g.room g.write (out c.args.nodes.now (Ok st.at)) _ (u.1 st.level))

pub returns-in_ok-note-in-Some-Node : goal.returns-in_ok-note-in-Some-Node
returns-in_ok-note-in-Some-Node c =
    let g = c.args.self.now in
    let f = g.filled in
    let st = c.args.st in
    let said = rw c.in-Some-Node.field-0-is at c.in-Some-Node.ensures in
    let u = lone-node f.table.now f.text.now f.cells.now f.n f.mem.now said.0 c.requires.0 said.1 f.known st.x st.place _ c.requires.3 c.requires.4
    c.byte_at.ensures.0 _ said.2 in
    lane-step f.table.now f.text.now f.cells.now f.n g.room g.write st.x st.level (out c.args.nodes.now (Ok st.at)) _ st.place
    (omega (arith, c.requires.3, c.requires.0.fits)) c.requires.4 u.1
    (run-single g.room g.write (out c.args.nodes.now (Ok st.at)) _ _ _ c.in_ok-note-in-Some-Node.ensures (u.2 st.level c.requires.2))
