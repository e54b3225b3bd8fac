use Rattle.std.proofs.Common.{◌≡◌, refl, sym, ◌∙◌, arith}
use Rattle.tree_read.specs.laws.Heads.{closing-start, closing-ends, closing-more, closing-all}
use Rattle.tree_read.proofs.heads.closings.Goals as goal

pub loop-value-init : goal.loop-value-init
loop-value-init c = closing-start c.args.json.now c.args.c c.args.at

pub returns-in-None : goal.returns-in-None
returns-in-None c = closing-ends c.args.json.now c.args.c c.args.at c.loop-value.value c.loop-value.place c.loop-value.invariant _ refl c.loop-value-test.true c.in-None.ensures.place

pub loop-value-preserved : goal.loop-value-preserved
loop-value-preserved c = closing-more c.args.json.now c.args.c c.args.at c.loop-value.value c.loop-value.place c.loop-value.invariant c.in-Some.a c.in-Some.ensures.place
    c.loop-value-test.true c.in-Some.ensures.inside

pub returns : goal.returns
returns c =
    let e : c.args.c ≡ c.loop-value.value = omega (arith, c.loop-value-test.false, c.loop-value.auto.value-end) in
    let r = closing-all c.args.json.now c.args.c c.args.at c.loop-value.value c.loop-value.place c.loop-value.invariant c.loop-value-test.false in
    (e ∙ r.0, r.1, omega arith)
