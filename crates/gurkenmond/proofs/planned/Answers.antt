use mathlib.Core.Path.{sym, ◌∙◌}
use Rattle.gurkenmond.specs.laws.Summaries.{plan-refused, plan-judged}
use Rattle.gurkenmond.proofs.planned.Goals as goal

pub returns-then-is_refused : goal.returns-then-is_refused
returns-then-is_refused c = c.no_plan.ensures ∙ plan-refused _ _ _ _ _ c.plainly-c.result c.plainly-c.ensures.answer
    (sym c.is_refused.ensures ∙ c.if-is_refused.true)

pub returns : goal.returns
returns c = c.judge.ensures ∙ plan-judged _ _ _ _ _
    (c.plainly-c.ensures.clear (sym c.is_refused.ensures ∙ c.if-is_refused.false)) _
    (c.plainly-c.ensures.table (sym c.is_refused.ensures ∙ c.if-is_refused.false))
