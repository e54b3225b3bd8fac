use Rattle.lake_sets.specs.steps.Steps.{root_in}
use Rattle.lake_sets.specs.laws.Edges.{grown-bare, grown-into}
use Rattle.lake_sets.proofs.Edges.add_body.Goals as goal

pub returns-then-b-ne0 : goal.returns-then-b-ne0
returns-then-b-ne0 c = grown-into c.args.self.now.src c.args.self.now.dst c.add.new.self.src c.add.new.self.dst c.args.self.now.count c.add.new.self.count
    c.args.n c.args.from c.body-b.result (root_in c.args.t.now c.args.r) c.if-b-ne0.true c.body-b.ensures.0 c.add.ensures

pub returns-else-b-ne0 : goal.returns-else-b-ne0
returns-else-b-ne0 c = grown-bare c.args.self.now.src c.args.self.now.dst c.args.self.now.count c.args.n c.args.from c.body-b.result
    (root_in c.args.t.now c.args.r) c.if-b-ne0.false c.body-b.ensures.0
