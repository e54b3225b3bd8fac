use Rattle.std.proofs.Common.{arith}
use Rattle.lake_sets.specs.laws.Edges.{grown-one, grown-none}
use Rattle.lake_sets.proofs.Edges.add.Goals as goal

pub returns-then-to-n : goal.returns-then-to-n
returns-then-to-n c = grown-one c.args.self.now.src c.args.self.now.dst c.args.self.now.count c.args.from c.args.to c.args.n (omega arith) (omega arith) (omega arith)

pub returns-else-to-n : goal.returns-else-to-n
returns-else-to-n c = grown-none c.args.self.now.src c.args.self.now.dst c.args.self.now.count c.args.from c.args.to c.args.n (omega arith)
