use Rattle.std.proofs.Common.{ap, map}
use Rattle.grammar_table.specs.Table.{words_from}
use Rattle.write_leaves.specs.steps.Printed.{low}
use Rattle.write_leaves.specs.laws.Pen.{then, said}
use Rattle.write_leaves.specs.laws.Names.{name-text, plain-text, lake-text}
use Rattle.write_leaves.proofs.bytes.Pen.symbol.Goals as goal

pub returns-then-kind-eq0 : goal.returns-then-kind-eq0
returns-then-kind-eq0 c = said _ (name-text c.args.t.now c.args.r c.kind.result c.name_length-n.result c.kind.ensures.0 c.name_length-n.ensures.0 c.args.plain c.if-kind-eq0.true)
    (said _ (ap (λ i. map low (words_from c.args.t.now i c.name_length-n.result)) c.name_at-i.ensures) c.name_bytes.ensures)

pub returns-then-plain : goal.returns-then-plain
returns-then-plain c = said _ (plain-text c.args.t.now c.args.r c.kind.result c.name_length-n.result c.kind.ensures.0 c.name_length-n.ensures.0 c.args.plain c.if-plain.true c.if-kind-eq0.false)
    (then _ _ _ c.emit_all.ensures (said _ (ap (λ i. map low (words_from c.args.t.now i c.name_length-n.result)) c.name_at-i.ensures) c.name_bytes-then-plain.ensures))

pub returns-else-plain : goal.returns-else-plain
returns-else-plain c = said _ (lake-text c.args.t.now c.args.r c.kind.result c.name_length-n.result c.kind.ensures.0 c.name_length-n.ensures.0 c.args.plain c.if-plain.false c.if-kind-eq0.false)
    (then _ _ _ c.emit.ensures (then _ _ _
    (said _ (ap (λ i. map low (words_from c.args.t.now i c.name_length-n.result)) c.name_at-i.ensures) c.name_bytes-else-plain.ensures) c.emit-else-plain.ensures))
