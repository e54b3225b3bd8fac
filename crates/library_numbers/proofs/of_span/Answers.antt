use Rattle.std.proofs.Common.{sym, ◌∙◌, arith, length}
use Rattle.read_tokens.specs.Bounds.{node_words}
use Rattle.match_list.proofs.laws.Reading.{sound-short, span-is}
use Rattle.library_numbers.specs.laws.Parts.{span_none, span-some}
use Rattle.library_numbers.proofs.of_span.Goals as goal
use Rattle.library_numbers.proofs.of_span.Goals.{else-k-nodes-via-then-k-nodes+else-node_sound, else-k-nodes-via-else-k-nodes}

pub overflow_sub-result : goal.overflow_sub-result
unfolding node_words
overflow_sub-result c =
    (span-is c.args.nodes.now c.args.k (length c.args.input.now) c.word-start.result c.word-end.result
    (omega (arith, c.if-k-nodes.true)) c.word-start.ensures.0 c.word-end.ensures.0 (sym c.if-node_sound.true ∙ c.node_sound.ensures)).forward

pub returns-then-node_sound : goal.returns-then-node_sound
unfolding node_words
returns-then-node_sound c =
    span-some c.args.input.now c.args.nodes.now c.args.k c.word-start.result c.word-end.result c.word-start.ensures.0 c.word-end.ensures.0
    (sym c.if-node_sound.true ∙ c.node_sound.ensures)

pub returns : goal.returns
unfolding node_words
returns c =
    span_none c.args.input.now c.args.nodes.now c.args.k
    (elim c.else-k-nodes.branch [
      | else-k-nodes-via-then-k-nodes+else-node_sound w ↦ sym w.if-node_sound.false ∙ w.node_sound.ensures
      | else-k-nodes-via-else-k-nodes w ↦ sound-short c.args.nodes.now c.args.k (length c.args.input.now) w.if-k-nodes.false
    ])
