use mathlib.Core.Path.{sym, ◌∙◌}
use native.Mathlib.Omega.{arith}
use Rattle.gurkenmond.specs.laws.Answers.{sets-told}
use Rattle.gurkenmond.specs.laws.Sets.{sets-refused, sets-zero, sets-past, sets-are}
use Rattle.gurkenmond.proofs.sets.Goals.{then-e-eq0-via-then-e-eq0, then-e-eq0-via-else-e-eq0+then-n-e}
use Rattle.gurkenmond.proofs.sets.Goals as goal

pub returns-then-is_refused : goal.returns-then-is_refused
returns-then-is_refused c = sets-told c.args.mode
    c.args.text.now
    c.args.e
    (c.no_sets.ensures ∙ sets-refused
    c.args.mode
    c.args.text.now
    c.finish-p.result.counted
    c.args.e
    (c.finish-p.ensures.ready
    c.args.mode
    c.args.text.now
    _ _ _ _ _
    c.load-r.ensures
    c.analyse-made.ensures).answer (sym c.is_refused.ensures ∙ c.if-is_refused.true))

pub returns-then-e-eq0 : goal.returns-then-e-eq0
returns-then-e-eq0 c = let stands = (c.finish-p.ensures.ready c.args.mode c.args.text.now _ _ _ _ _ c.load-r.ensures c.analyse-made.ensures).stands
    (sym c.is_refused.ensures ∙ c.if-is_refused.false) in
    sets-told c.args.mode c.args.text.now c.args.e (c.no_sets-then-e-eq0.ensures ∙ elim c.then-e-eq0.branch [
      | then-e-eq0-via-then-e-eq0 w ↦ sets-zero c.args.mode c.args.text.now _ _ _ _ _ _ _ _ c.finish-p.result.rounds stands c.args.e w.if-e-eq0.true
      | then-e-eq0-via-else-e-eq0+then-n-e w ↦ sets-past c.args.mode c.args.text.now _ _ _ _ _ _ _ _ c.finish-p.result.rounds stands c.args.e
          c.expressions-n.result c.expressions-n.ensures w.if-n-e.true
    ])

pub returns : goal.returns
returns c = sets-told
    c.args.mode
    c.args.text.now
    c.args.e (sets-are
    c.args.mode
    c.args.text.now _ _ _ _ _ _ _ _
    c.finish-p.result.rounds
    ((c.finish-p.ensures.ready
    c.args.mode
    c.args.text.now _ _ _ _ _
    c.load-r.ensures
    c.analyse-made.ensures).stands (sym c.is_refused.ensures
    ∙ c.if-is_refused.false))
    c.args.e c.expressions-n.result
    c.sets_at.result c.expressions-n.ensures
    c.if-e-eq0.false (omega (arith, c.if-n-e.false)) c.sets_at.ensures)
