use Rattle.std.proofs.Common.{arith, rules, ◌≡◌, sym, ap, ◌∙◌, subst, ℕ, Bool, false, List, length, replicate}
use Rattle.lake_sets.specs.steps.Steps.{Tame, marks_in}
use Rattle.lake_sets.specs.laws.Fills.{marks-next}
use Rattle.lake_sets.proofs.mark_all.Goals as goal

pub loop-init : goal.loop-init
loop-init c = λ x h. search rules

pub loop-preserved : goal.loop-preserved
loop-preserved c = λ x h.
    let m : length c.loop.marks ≡ length c.args.marks.now = omega (arith, c.fill.ensures.len) in
    let s : length c.loop.sets ≡ length c.args.sets.now = omega arith in
    c.mark_round.ensures x
    (subst (λ (n : ℕ). Tame c.args.t.now n (length c.loop.marks) x) (sym s) (subst (λ (n : ℕ). Tame c.args.t.now (length c.args.sets.now) n x) (sym m) h))
    ∙ marks-next c.args.t.now (length c.args.sets.now) (length c.loop.sets) (length c.args.marks.now) c.loop.counter c.loop.marks s (c.loop.invariant x h)

pub returns : goal.returns
returns c = λ x h. c.loop.invariant x h
    ∙ ap (marks_in c.args.t.now (length c.args.sets.now) (length c.args.marks.now)) (omega (arith, c.fill.ensures.len))
