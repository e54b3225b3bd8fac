use Rattle.match_nodes.specs.steps.Turns.{turns}
use Rattle.match_lone.specs.laws.Lanes.{laid-behind}
use Rattle.match_nodes.proofs.Pass.go_on.Goals as goal

pub turn-requires : goal.turn-requires
turn-requires c =
    let f = c.args.self.now.filled in
    (c.requires.0, c.loop-next.invariant.2, laid-behind f.table.now f.mem.now c.args.desk.now _ c.requires.2 c.loop-next.desk c.loop-next.invariant.3)

pub loop-next-smaller : goal.loop-next-smaller
unfolding turns
loop-next-smaller c = let u = rw c.in-Some.is at c.in_ok-next.ensures in u.0.less
