use native.Mathlib.Omega.{arith}
use Rattle.lake_sets.specs.laws.Edges.{flowed}
use Rattle.lake_sets.proofs.along.Goals as goal

pub returns : goal.returns
returns c = λ n gifts es p q w.
    flowed c.args.all.now.src c.args.all.now.dst
    c.args.all.now.count n c.args.base.now c.rounds.result
    c.rounds.new.cur c.rounds.new.next gifts es (omega arith) p q w c.rounds.ensures
