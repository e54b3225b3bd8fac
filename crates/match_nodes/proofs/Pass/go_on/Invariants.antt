use Rattle.std.specs.Prelude.{◌≡◌, length, Ok}
use Rattle.match_lone.specs.steps.Lanes.{Behind}
use Rattle.match_walks.specs.steps.Tasks.{listed}
use Rattle.match_walks.specs.steps.Waits.{tasks_of}
use Rattle.match_nodes.specs.steps.Passes.{out, run}
use Rattle.match_nodes.specs.steps.Turns.{mode_of, State, turns}
use Rattle.match_nodes.proofs.Pass.go_on.Given as goal

abbrev pub invariant-loop-next : goal.invariant-loop-next
invariant-loop-next l =
    let f = l.self.filled in
    let b = l.initial.st in
    (length l.nodes ≡ length l.initial.nodes) × (length l.desk ≡ length l.initial.desk)
    × State f.table.now f.text.now f.cells.now f.n l.desk (mode_of l.st.mode) l.st.level l.st.x l.st.place × Behind l.initial.desk l.desk
    × (run l.self.room l.self.write (out l.nodes (Ok l.st.at))
    (listed f.table.now f.text.now f.cells.now f.n (tasks_of f.table.now l.desk (mode_of l.st.mode) l.st.level l.st.x) l.st.place)
    ≡ run l.self.room l.self.write (out l.initial.nodes (Ok b.at))
    (listed f.table.now f.text.now f.cells.now f.n (tasks_of f.table.now l.initial.desk (mode_of b.mode) b.level b.x) b.place))

abbrev pub decreases-loop-next : goal.decreases-loop-next
decreases-loop-next l =
    let f = l.self.filled in turns f.table.now f.text.now f.cells.now f.n l.desk (mode_of l.st.mode) l.st.level l.st.x l.st.place
