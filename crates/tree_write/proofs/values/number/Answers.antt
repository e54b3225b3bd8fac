use Rattle.std.proofs.Common.{ap, ◌∷◌, []}
use Rattle.write_leaves.specs.laws.Pen.{then, said}
use Rattle.tree_write.specs.laws.Values.{number-said}
use Rattle.tree_write.proofs.values.number.Goals as goal

pub returns : goal.returns
returns c = said _ (number-said c.args.n)
    (then _ _ _ c.lead.ensures (then _ _ _ c.lead-2.ensures (then _ _ _ c.lead-3.ensures (then _ _ _ c.lead-4.ensures (said _ (ap (λ d. d ∷ []) c.digit.ensures) c.emit.ensures)))))
