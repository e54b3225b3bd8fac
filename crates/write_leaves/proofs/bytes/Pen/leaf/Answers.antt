use Rattle.std.proofs.Common.{ap, map, arith}
use Rattle.std.proofs.Math.Option.{none}
use Rattle.grammar_table.specs.Table.{words_from, marks_from}
use Rattle.write_rules.specs.Writing.{lit_chars, runs, runs_text}
use Rattle.write_leaves.specs.steps.Printed.{low}
use Rattle.write_leaves.specs.laws.Pen.{then, said}
use Rattle.write_leaves.specs.laws.Names.{any-text, literal-text, class-text}
use Rattle.write_leaves.proofs.bytes.Pen.leaf.Goals as goal

pub returns-in-0 : goal.returns-in-0
returns-in-0 c = said _ (any-text c.args.t.now c.args.x c.leaf_kind.result c.leaf_kind.ensures.0 c.in-0.is) c.emit.ensures

pub returns-in-1 : goal.returns-in-1
returns-in-1 c = said _ (literal-text c.args.t.now c.args.x c.leaf_kind.result c.leaf_kind.ensures.0 c.leaf_length.result c.leaf_length.ensures.0 c.in-1.is)
    (then _ _ _ c.emit-in-1.ensures (then _ _ _
    (said _ (ap (λ i. lit_chars (map low (words_from c.args.t.now i c.leaf_length.result))) c.content_at-i.ensures) c.lit_chars.ensures) c.emit-in-1-2.ensures))

pub returns-in_default : goal.returns-in_default
returns-in_default c = said _ (class-text c.args.t.now c.args.x c.leaf_kind.result c.leaf_kind.ensures.0 (λ e. omega (arith, e)) (λ e. omega (arith, e)))
    (then _ _ _ c.emit-in_default.ensures (then _ _ _
    (said _ (ap (λ i. runs_text (runs none 0 (marks_from c.args.t.now i 256))) c.content_at-i.ensures) c.class_runs.ensures) c.emit-in_default-2.ensures))
