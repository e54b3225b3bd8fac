use Prim.Native.Nat.{ℕ, ◌+◌, ◌-◌}
use mathlib.Core.Path.{sym, ap, ◌∙◌}
use mathlib.Core.List.{List}
use lib.ListN.{length}
use lib.Seq.{sets, length-sets}
use Rattle.grammar_table.specs.Table.{words_from}
use Rattle.grammar_table.proofs.Steps.{stores-whole, stores-on, stores-end}
use Rattle.grammar_table.proofs.store.Goals as goal

pub loop-k-init : goal.loop-k-init
loop-k-init c = stores-whole _ _ _ _

pub loop-k-preserved : goal.loop-k-preserved
loop-k-preserved c = c.loop-k.invariant ∙ stores-on _ _ _ _ _ _ c.loop-k-test.true
    c.word.ensures.0 ∙ ap
    (λ (l : List ℕ). sets l (c.args.at + (c.loop-k.k + 1))
    (words_from c.args.from.now (c.loop-k.k + 1)
    (c.args.n - (c.loop-k.k + 1)))) (sym c.put.ensures)

pub shape_of-to : goal.shape_of-to
shape_of-to c = sym (ap length (c.loop-k.invariant ∙ stores-end _ _ _ _ _ c.loop-k-test.false)) ∙ length-sets c.args.to.now
    c.args.at (words_from c.args.from.now 0 c.args.n)

pub returns : goal.returns
returns c = sym (c.loop-k.invariant ∙ stores-end _ _ _ _ _ c.loop-k-test.false)
