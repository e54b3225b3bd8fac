use mathlib.Core.Path.{sym, ap, ◌∙◌}
use Prim.Native.Nat.{◌-◌}
use mathlib.Core.Bool.{Bool, true, false, cond}
use lib.ListN.{get_or}
use Rattle.base_words.specs.Set.{union_of, empty}
use Rattle.lake_sets.proofs.join_use.Goals as goal

pub returns-then-is_use : goal.returns-then-is_use
returns-then-is_use c = c.union.ensures ∙ ap (union_of c.args.s) c.set_at.ensures ∙ ap
    (λ (b : Bool). cond b (union_of c.args.s
    (get_or c.args.alts.now c.args.e empty)) c.args.s)
    (sym c.if-is_use.true ∙ c.is_use.ensures)

pub returns-else-is_use : goal.returns-else-is_use
returns-else-is_use c = ap (λ (b : Bool). cond b (union_of c.args.s (get_or c.args.alts.now c.args.e empty))
    c.args.s) (sym c.if-is_use.false ∙ c.is_use.ensures)
