use Rattle.std.proofs.Common.{arith, rules, ◌≡◌, ◌∙◌, subst, ℕ, length}
use Rattle.lake_calls.specs.steps.Marks.{After}
use Rattle.lake_calls.specs.laws.Marks.{round-more}
use Rattle.lake_calls.proofs.loops.mark_all.Goals as goal

pub loop-init : goal.loop-init
loop-init c = λ number r x h s. search rules

pub loop-preserved : goal.loop-preserved
loop-preserved c = round-more c.args.t.now (length c.args.marks.now) (length c.loop.next) c.loop.counter c.loop.marks _ _
    (omega (arith, c.fill.ensures.len)) c.mark_round.ensures (search rules) c.loop.invariant

pub returns : goal.returns
returns c = record {
  are = subst (λ (k : ℕ). After c.args.t.now (length c.args.marks.now) k c.loop.marks) (omega (arith, c.fill.ensures.len)) c.loop.invariant;
}
