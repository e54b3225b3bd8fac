use mathlib.Core.Path.{sym, ◌∙◌}
use Rattle.gurkenmond.specs.laws.Answers.{lakes-told}
use Rattle.gurkenmond.specs.laws.Sets.{skip-refused, skip_is}
use Rattle.gurkenmond.proofs.cannot_skip.Goals as goal

pub returns-then-is_refused : goal.returns-then-is_refused
returns-then-is_refused c = lakes-told c.args.mode
    c.args.text.now
    (skip-refused c.args.mode
    c.args.text.now
    c.finish-p.result.counted (c.finish-p.ensures.ready
    c.args.mode
    c.args.text.now _ _ _ _
    _
    c.load-r.ensures
    c.analyse-made.ensures).answer (sym c.is_refused.ensures ∙ c.if-is_refused.true))

pub returns : goal.returns
returns c = lakes-told
    c.args.mode
    c.args.text.now (skip_is
    c.args.mode
    c.args.text.now _ _ _ _ _ _ _ _ c.finish-p.result.rounds
    ((c.finish-p.ensures.ready
    c.args.mode
    c.args.text.now _ _ _ _ _
    c.load-r.ensures
    c.analyse-made.ensures).stands (sym
    c.is_refused.ensures ∙ c.if-is_refused.false)) c.cannot_skip.result c.cannot_skip.ensures)
