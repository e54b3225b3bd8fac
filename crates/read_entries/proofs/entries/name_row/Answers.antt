use Prim.Native.Nat.{ℕ, ◌+◌, ◌-◌}
use mathlib.Core.Path.{sym, ap, ◌∙◌}
use mathlib.Core.List.{List}
use lib.ListN.{length-set, replicate, set}
use Rattle.grammar_table.specs.Table.{symbol_words, words_from}
use Rattle.grammar_table.specs.laws.Words.{words-none}
use Rattle.read_entries.proofs.Steps.{store-whole, store-none, words-whole, name-on, grown, name-row-is}
use Rattle.read_entries.proofs.entries.name_row.Goals as goal

pub loop-i-init : goal.loop-i-init
loop-i-init c = (
  grown (set (replicate symbol_words 0) 0 c.args.kind) c.put-2.new.a 3
      c.args.n 42
      (c.put-2.ensures ∙ ap (λ (l : List ℕ). set l 3 c.args.n) c.put.ensures)
      (length-set (replicate symbol_words 0) 0 c.args.kind),
  store-whole _ _ _ _ (words-whole _ _ _),
)

pub slice_bounds-put-end-in-loop-i : goal.slice_bounds-put-end-in-loop-i
slice_bounds-put-end-in-loop-i c = sym c.loop-i.invariant.0

pub loop-i-preserved : goal.loop-i-preserved
loop-i-preserved c = (
  grown c.loop-i.row c.put-in-loop-i.new.a (4 + c.loop-i.i)
      c.byte.result 42 c.put-in-loop-i.ensures
      c.loop-i.invariant.0,
  c.loop-i.invariant.1 ∙ name-on
      c.args.text.now
      c.loop-i.row c.put-in-loop-i.new.a
      c.args.from
      c.args.n c.loop-i.i
      c.byte.result c.loop-i-test.true c.byte.ensures.0 c.put-in-loop-i.ensures,
)

pub returns : goal.returns
returns c = sym (sym (name-row-is c.args.text.now
    c.args.kind c.args.from
    c.args.n c.put-2.new.a
    (c.put-2.ensures ∙ ap (λ (l : List ℕ). set l 3 c.args.n)
    c.put.ensures)) ∙ c.loop-i.invariant.1 ∙ store-none c.loop-i.row (4 + c.loop-i.i)
    (words_from c.args.text.now
    (c.args.from + c.loop-i.i)
    (c.args.n - c.loop-i.i))
    (words-none c.args.text.now
    (c.args.from + c.loop-i.i) c.loop-i.i
    c.args.n c.loop-i-test.false))
