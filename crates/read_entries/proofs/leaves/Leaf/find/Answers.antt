use Rattle.std.proofs.Common.{ℕ, ◌+◌, ◌-◌, ◌*◌, ◌≡◌, sym, ap, ◌∙◌, arith}
use Rattle.grammar_table.specs.Table.{terminals_at, terminal_words, terminal_key}
use Rattle.grammar_table.specs.steps.Rows.{row_is, seek}
use Rattle.grammar_table.specs.laws.Seeks.{seek_hit, seek-on, seek-end}
use Rattle.read_entries.specs.steps.Leaves.{words_of}
use Rattle.read_entries.proofs.leaves.Leaf.find.Goals as goal

pub returns-then-is_at : goal.returns-then-is_at
returns-then-is_at c = (
  sym (c.loop-i.invariant ∙ seek_hit _ _ _ _ _ _ _ c.loop-i-test.true
      (ap (λ (b : ℕ). row_is c.args.t.now b (words_of c.args.self.now) terminal_key terminal_words) (sym c.leaf_at.ensures) ∙ sym c.is_at.ensures ∙ c.if-is_at.true)),
  omega arith,
)

pub loop-i-preserved : goal.loop-i-preserved
loop-i-preserved c =
    let e : terminals_at + terminal_words * c.loop-i.i + terminal_words ≡ terminals_at + terminal_words * (c.loop-i.i + 1) = omega arith in
    c.loop-i.invariant
    ∙ seek-on _ _ _ _ _ _ _ c.loop-i-test.true
    (ap (λ (b : ℕ). row_is c.args.t.now b (words_of c.args.self.now) terminal_key terminal_words) (sym c.leaf_at.ensures) ∙ sym c.is_at.ensures ∙ c.if-is_at.false)
    ∙ ap (λ (b : ℕ). c.loop-i.i + 1 + seek c.args.t.now (words_of c.args.self.now) terminal_key terminal_words b (c.args.count - (c.loop-i.i + 1))) e

pub returns : goal.returns
returns c =
    let e : c.loop-i.i ≡ c.args.count = omega (arith, c.loop-i.auto.i-end, c.loop-i-test.false) in
    sym (c.loop-i.invariant ∙ seek-end _ _ _ _ _ _ _ c.loop-i-test.false ∙ e)
