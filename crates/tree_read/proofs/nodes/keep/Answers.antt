use Rattle.std.proofs.Common.{arith}
use Rattle.match_meaning.specs.Meaning.{nd}
use Rattle.tree_read.specs.laws.Walks.{kept-past}
use Rattle.tree_read.proofs.nodes.keep.Goals as goal

pub returns-else-k-lt4611686018427387904 : goal.returns-else-k-lt4611686018427387904
returns-else-k-lt4611686018427387904 c = kept-past c.args.nodes.now c.args.k (nd c.args.x.symbol c.args.x.start c.args.x.end c.args.x.depth)
    (omega (arith, c.if-k-lt4611686018427387904.false))
