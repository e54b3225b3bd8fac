use Rattle.std.proofs.Common.{sym, ◌∙◌, arith}
use Rattle.read_tokens.specs.Bounds.{depth_bound}
use Rattle.match_meaning.specs.Meaning.{nd}
use Rattle.tree_list.specs.laws.Gaps.{refused-deep, refused, let-in, stored}
use Rattle.tree_list.proofs.admit.Goals as goal

pub returns-then-depth-gt-DEEPEST : goal.returns-then-depth-gt-DEEPEST
unfolding depth_bound
returns-then-depth-gt-DEEPEST c = refused-deep c.args.symbols c.args.depths c.args.k (nd c.args.x.symbol c.args.x.start c.args.x.end c.args.x.depth) c.args.gaps.now _ c.if-depth-gt-DEEPEST.true

pub returns-then-not-may_be : goal.returns-then-not-may_be
returns-then-not-may_be c = refused c.args.symbols c.args.depths c.args.k (nd c.args.x.symbol c.args.x.start c.args.x.end c.args.x.depth) c.args.gaps.now _
    c.word-from.result c.word-to.result c.word-from.ensures.0 c.word-to.ensures.0 (sym c.if-not-may_be.true ∙ c.may_be.ensures)

pub returns : goal.returns
returns c = let-in c.args.symbols c.args.depths c.args.k (nd c.args.x.symbol c.args.x.start c.args.x.end c.args.x.depth) c.args.gaps.now _
    c.word-from.result c.word-to.result c.word-from.ensures.0 c.word-to.ensures.0 (sym c.if-not-may_be.false ∙ c.may_be.ensures) (omega (arith, c.if-depth-gt-DEEPEST.false))
    (stored c.args.gaps.now _ _ _ (nd c.args.x.symbol c.args.x.start c.args.x.end c.args.x.depth) c.put.ensures c.put-2.ensures c.put-3.ensures)
