use mathlib.Core.Path.{sym, ◌∙◌}
use Rattle.gurkenmond.specs.laws.Matches.{as-match, loopless, match-ran, match-refused}
use Rattle.gurkenmond.proofs.match_input.Goals as goal

pub returns-then-is_refused : goal.returns-then-is_refused
returns-then-is_refused c = as-match c.not_matched.ensures (match-refused c.args.mode
    c.args.text.now
    c.args.input.now
    c.args.cells.now
    c.args.nodes.now c.plain_only-c.result
    c.plain_only-c.ensures.answer (sym c.is_refused.ensures ∙ c.if-is_refused.true))

pub run-requires : goal.run-requires
run-requires c = loopless c.args.mode
    c.args.text.now _
    (c.plain_only-c.ensures.clear (sym c.is_refused.ensures ∙ c.if-is_refused.false))
    (c.plain_only-c.ensures.plain (sym c.is_refused.ensures ∙ c.if-is_refused.false))

pub returns : goal.returns
returns c = match-ran c.args.mode
    c.args.text.now _
    (c.plain_only-c.ensures.clear
    (sym c.is_refused.ensures ∙
    c.if-is_refused.false))
    (c.plain_only-c.ensures.plain
    (sym c.is_refused.ensures ∙
    c.if-is_refused.false))
    c.args.input.now
    c.args.cells.now
    c.args.nodes.now _ _
    c.run.result c.run.ensures
