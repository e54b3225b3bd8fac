use Rattle.std.proofs.Common.{ℕ, ◌∷◌, [], map, ap, sym, arith}
use Rattle.grammar_table.specs.Table.{words_from}
use Rattle.write_leaves.specs.steps.Pen.{after}
use Rattle.write_leaves.specs.steps.Printed.{low}
use Rattle.write_leaves.specs.laws.Pen.{said, less, done}
use Rattle.write_leaves.specs.laws.Leaves.{name-more, name-end, words-start}
use Rattle.write_leaves.proofs.bytes.Pen.name_bytes.Goals as goal

pub loop-j-init : goal.loop-j-init
loop-j-init c = ap (λ l. after c.args.self.now (map low (l))) (words-start c.args.t.now c.args.i c.args.n)

pub loop-j-preserved : goal.loop-j-preserved
loop-j-preserved c = less _ _ _ c.loop-j.invariant (name-more c.args.t.now c.args.i c.args.n c.loop-j.j c.loop-j-test.true)
    (said _ (ap (λ (x : ℕ). low x ∷ []) c.word.ensures.0) c.emit.ensures)

pub returns : goal.returns
returns c = done _ _ c.loop-j.invariant (name-end c.args.t.now c.args.i c.args.n c.loop-j.j (omega (arith, c.loop-j-test.false)))
