use mathlib.Core.Path.{sym, ap, ◌∙◌}
use native.Mathlib.Omega.{arith}
use Rattle.prepare.specs.Reads.{is_refused}
use Rattle.prepare.specs.declared.Counted.{Counted}
use Rattle.prepare.specs.laws.Reads.{refusing, first-six, by-seven, by-eight, by-none}
use Rattle.prepare.proofs.finish.Goals as goal

pub returns-then-is_refused : goal.returns-then-is_refused
returns-then-is_refused c = record {
  ready = λ m s t ms sets eps succ a w. refusing c.refused.result c.refused.ensures
      (sym c.is_refused.ensures ∙ c.if-is_refused.true)
      (first-six m s t c.args.r a (sym c.is_refused.ensures ∙ c.if-is_refused.true));
}

pub returns-then-e-gt1024 : goal.returns-then-e-gt1024
returns-then-e-gt1024 c = record {
  ready = λ m s t ms sets eps succ a w. refusing c.refused-then-e-gt1024.result c.refused-then-e-gt1024.ensures
      (ap (λ (x : Counted). is_refused x.verdict) c.refusal.ensures)
      (c.refusal.ensures ∙ by-seven m s t c.args.r a
      (sym c.is_refused.ensures ∙ c.if-is_refused.false) _ _ _ _ _ _ _
      c.translate-e.result c.args.made.rounds
      (c.translate-e.ensures.translated t ms sets eps succ c.args.made.rounds w) c.if-e-gt1024.true);
}

pub returns-then-l-r : goal.returns-then-l-r
returns-then-l-r c = record {
  ready = λ m s t ms sets eps succ a w. refusing c.refused-then-l-r.result c.refused-then-l-r.ensures
      (ap (λ (x : Counted). is_refused x.verdict) c.refusal-then-l-r.ensures)
      (c.refusal-then-l-r.ensures ∙ by-eight m s t c.args.r a
      (sym c.is_refused.ensures ∙
      c.if-is_refused.false) _ _ _ _ _ _ _ c.translate-e.result
      c.args.made.rounds
      (c.translate-e.ensures.translated t ms sets eps succ
      c.args.made.rounds w) (omega (arith, c.if-e-gt1024.false))
      c.loop_of-l.result c.loop_of-l.ensures c.if-l-r.true);
}

pub returns : goal.returns
returns c = record {
  ready = λ m s t ms sets eps succ a w. by-none m s t c.args.r a
      (sym c.is_refused.ensures ∙ c.if-is_refused.false) _ _ _ _ _ _ _
      c.translate-e.result c.args.made.rounds
      (c.translate-e.ensures.translated t ms sets eps succ c.args.made.rounds w)
      (omega (arith, c.if-e-gt1024.false)) c.loop_of-l.result c.loop_of-l.ensures (omega (arith, c.if-l-r.false));
}
