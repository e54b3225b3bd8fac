use Rattle.std.proofs.Common.{ap, sym, ◌∙◌, ◌+◌}
use Rattle.write_leaves.specs.steps.Pen.{after}
use Rattle.write_leaves.specs.steps.Printed.{rest_of}
use Rattle.write_leaves.specs.laws.Pen.{less}
use Rattle.write_leaves.specs.laws.Leaves.{opens, goes_on, stays, closes}
use Rattle.write_leaves.proofs.bytes.Pen.mark.Goals as goal

pub returns-in-Some-clause-text : goal.returns-in-Some-clause-text
returns-in-Some-clause-text c = less _ _ _ (ap (λ o. after c.args.self.now (rest_of c.args.t.now c.args.i o c.args.b)) (sym c.in-Some.is))
    (closes c.args.t.now c.args.i c.args.b c.requires.1 c.in-Some.lo (sym c.word-marked.ensures.0 ∙ c.if-not-marked.true)) c.run_text.ensures

pub returns-in-None-clause-text : goal.returns-in-None-clause-text
returns-in-None-clause-text c = ap (after c.args.self.now) (sym (opens c.args.t.now c.args.i c.args.b c.requires.1 (λ z. c.if-marked.true (c.word-marked.ensures.0 ∙ z))))
    ∙ ap (λ o. after c.args.self.now (rest_of c.args.t.now c.args.i o c.args.b)) (sym c.in-None.is)

pub returns-in_default-clause-text : goal.returns-in_default-clause-text
returns-in_default-clause-text c =
    ap (after c.args.self.now) (sym (goes_on c.args.t.now c.args.i c.args.b c.requires.1 c.in-Some.lo (λ z. c.if-not-marked.false (c.word-marked.ensures.0 ∙ z))))
    ∙ ap (λ o. after c.args.self.now (rest_of c.args.t.now c.args.i o c.args.b)) (sym c.in-Some.is)

pub returns-in_default-2-clause-text : goal.returns-in_default-2-clause-text
returns-in_default-2-clause-text c = ap (λ o. after c.args.self.now (rest_of c.args.t.now c.args.i o (c.args.b + 1))) c.in-None.is
    ∙ ap (after c.args.self.now) (sym (stays c.args.t.now c.args.i c.args.b c.requires.1 (sym c.word-marked.ensures.0 ∙ c.if-marked.false)))
    ∙ ap (λ o. after c.args.self.now (rest_of c.args.t.now c.args.i o c.args.b)) (sym c.in-None.is)
