use Rattle.std.proofs.Common.{◌∙◌}
use Rattle.read_tokens.specs.Bounds.{input_bound, node_words}
use Rattle.match_list.specs.Nodes.{room_of}
use Rattle.tree_summary.specs.laws.Judging.{plan-long, plan-bad, plan-small, plan-good}
use Rattle.tree_summary.proofs.judge.Goals as goal

pub returns-then-input-gt-INPUT_MOST : goal.returns-then-input-gt-INPUT_MOST
unfolding input_bound
returns-then-input-gt-INPUT_MOST c = c.no_plan.ensures ∙ plan-long _ c.args.input.now c.args.nodes.now c.args.room c.if-input-gt-INPUT_MOST.true

pub returns-in-Some : goal.returns-in-Some
unfolding input_bound
returns-in-Some c =
    rw (← c.symbols-symbols.ensures.0)
    (c.no_plan-in-Some.ensures ∙ plan-bad c.symbols-symbols.result c.args.input.now c.args.nodes.now c.args.room c.if-input-gt-INPUT_MOST.false c.in-Some.place c.in-Some.ensures)

pub returns-then-room-symbols : goal.returns-then-room-symbols
unfolding input_bound
returns-then-room-symbols c =
    rw (← c.symbols-symbols.ensures.0)
    (c.no_plan-then-room-symbols.ensures ∙ plan-small c.symbols-symbols.result c.args.input.now c.args.nodes.now c.args.room c.if-input-gt-INPUT_MOST.false c.in_default.ensures c.if-room-symbols.true)

pub returns : goal.returns
unfolding input_bound room_of node_words
returns c = rw (← c.symbols-symbols.ensures.0) (plan-good c.symbols-symbols.result c.args.input.now c.args.nodes.now c.args.room c.if-input-gt-INPUT_MOST.false c.in_default.ensures
    c.if-room-symbols.false)
