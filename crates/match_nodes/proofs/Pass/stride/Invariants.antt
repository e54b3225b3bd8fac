use Rattle.std.specs.Prelude.{◌≤◌, ◌≡◌, length, Ok}
use Rattle.match_nodes.specs.steps.Passes.{out}
use Rattle.match_nodes.specs.steps.Lanes.{Laned}
use Rattle.match_nodes.proofs.Pass.stride.Given as goal

abbrev pub invariant-loop-place : goal.invariant-loop-place
invariant-loop-place l =
    let f = l.self.filled in
    (length l.nodes ≡ length l.initial.nodes)
    × Laned f.table.now f.text.now f.cells.now f.n l.self.room l.self.write (out l.initial.nodes (Ok l.fn.first.at)) (out l.nodes (Ok l.at))
    l.fn.first.x l.fn.first.level l.fn.first.place l.place
