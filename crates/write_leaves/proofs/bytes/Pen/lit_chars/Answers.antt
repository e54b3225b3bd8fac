use Rattle.std.proofs.Common.{ℕ, ◌∷◌, [], map, ap, sym, arith}
use Rattle.grammar_table.specs.Table.{words_from}
use Rattle.write_rules.specs.Writing.{lit_char, lit_chars}
use Rattle.write_leaves.specs.steps.Pen.{after}
use Rattle.write_leaves.specs.steps.Printed.{low}
use Rattle.write_leaves.specs.laws.Pen.{said, less, done}
use Rattle.write_leaves.specs.laws.Leaves.{chars-more, chars-end, words-start}
use Rattle.write_leaves.proofs.bytes.Pen.lit_chars.Goals as goal

pub loop-j-init : goal.loop-j-init
loop-j-init c = ap (λ l. after c.args.self.now (lit_chars (map low (l)))) (words-start c.args.t.now c.args.i c.args.n)

pub loop-j-preserved : goal.loop-j-preserved
loop-j-preserved c = less _ _ _ c.loop-j.invariant (chars-more c.args.t.now c.args.i c.args.n c.loop-j.j c.loop-j-test.true)
    (said _ (ap (λ (x : ℕ). lit_char (low x)) c.word.ensures.0) c.lit_char.ensures)

pub returns : goal.returns
returns c = done _ _ c.loop-j.invariant (chars-end c.args.t.now c.args.i c.args.n c.loop-j.j (omega (arith, c.loop-j-test.false)))
