use mathlib.Core.Path.{sym, ◌∙◌}
use Rattle.gurkenmond.specs.laws.Asks.{as-way, lake-refused, lake-asked}
use Rattle.gurkenmond.proofs.lake_at.Goals as goal

pub returns-then-is_refused : goal.returns-then-is_refused
returns-then-is_refused c = as-way c.not_asked.ensures (lake-refused c.args.mode
    c.args.text.now
    c.args.input.now
    c.args.cells.now
    c.args.lake c.args.place
    c.look-l.result.verdict c.look-l.ensures.answer (sym c.is_refused.ensures ∙ c.if-is_refused.true))

pub ask-requires : goal.ask-requires
ask-requires c = c.look-l.ensures.stood (sym c.is_refused.ensures ∙ c.if-is_refused.false)

pub returns : goal.returns
returns c = lake-asked c.args.mode
    c.args.text.now
    c.args.input.now
    c.args.cells.now
    c.args.lake
    c.args.place
    _ c.look-l.result
    (c.look-l.ensures.stood
    (sym c.is_refused.ensures ∙ c.if-is_refused.false))
    c.look-l.ensures.symbol _ c.ask.result c.ask.ensures
