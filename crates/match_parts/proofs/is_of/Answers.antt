use Rattle.std.proofs.Common.{ℕ, ◌+◌, ◌-◌, ◌≡◌, eqb, sym, ap, ◌∙◌, subst, arith, eqb-true}
use Rattle.grammar_table.specs.Trees.{below}
use Rattle.grammar_table.specs.laws.Trees.{below-le}
use Rattle.match_parts.specs.steps.Lists.{Above}
use Rattle.match_parts.specs.laws.Lists.{above-start, above_more, above-all}
use Rattle.match_parts.proofs.is_of.Goals as goal

pub loop-j-init : goal.loop-j-init
loop-j-init c = (omega arith, above-start c.args.t.now c.args.lists.now (eqb c.word-kind.result 3) (c.args.i + 2) c.args.x)

pub loop-j-preserved : goal.loop-j-preserved
loop-j-preserved c =
    let g = c.goes_on.ensures c.if-not-goes_on.false in (
      omega (arith, below-le c.left-l.result (c.loop-j.y - 1), c.part-y.ensures, c.loop-j.invariant.0),
      above_more c.args.t.now c.args.lists.now (c.args.i + 2) c.args.x c.loop-j.j c.loop-j.y c.word-kind.result c.left-l.result c.part-y.result c.part.result c.word.result
          c.loop-j.invariant.1 (λ z. omega (arith, z, g.0)) (sym g.1) c.left-l.ensures.0 (omega arith) (omega arith) c.part-y.ensures
          (c.part.ensures ∙ ap (λ (r : ℕ). below r (c.loop-j.y - 1)) c.right-r.ensures.0) c.word.ensures.0 c.if-word-part.false,
    )

pub returns : goal.returns
returns c = λ e.
    let last : c.loop-j.j ≡ c.word-count.result - 1 = omega arith in
    above-all c.args.t.now c.args.lists.now c.args.i c.args.x (c.word-count.result - 1) c.loop-j.y c.word-2.result c.word-count.result
    (subst (λ (z : ℕ). Above c.args.t.now c.args.lists.now (eqb z 3) (c.args.i + 2) c.args.x (c.word-count.result - 1) c.loop-j.y) c.word-kind.ensures.0
    (subst (λ (j : ℕ). Above c.args.t.now c.args.lists.now (eqb c.word-kind.result 3) (c.args.i + 2) c.args.x j c.loop-j.y) last c.loop-j.invariant.1))
    c.word-2.ensures.0 (eqb-true _ _ e) (omega arith) c.word-count.ensures.0
