use Rattle.std.proofs.Common.{arith, ◌≤◌, [], ◌∷◌, length}
use Rattle.lake_rules.specs.Flows.{edge}
use Rattle.lake_sets.specs.steps.Steps.{kept}
use Rattle.lake_sets.specs.laws.Edges.{grown-two, kept-long}
use Rattle.lake_sets.proofs.Edges.add_two.Goals as goal

pub add-requires-2 : goal.add-requires-2
add-requires-2 c = omega (arith, c.add.ensures.most, kept-long c.args.n (edge c.args.from c.args.x ∷ []))

pub returns : goal.returns
returns c = grown-two c.args.self.now.src c.args.self.now.dst c.add.new.self.src c.add.new.self.dst c.add-2.new.self.src c.add-2.new.self.dst
    c.args.self.now.count c.add.new.self.count c.add-2.new.self.count c.args.n
    (edge c.args.from c.args.x ∷ []) (edge c.args.from c.args.y ∷ []) c.add.ensures c.add-2.ensures
