use Rattle.std.proofs.Common.{arith, refl, ◌≡◌, get_or, []}
use Rattle.base_words.specs.Set.{empty}
use Rattle.lake_sets.proofs.Spread.{of_two}
use mathlib.Core.Path.{ap, ◌∙◌}
use mathlib.Core.List.{List, ◌∷◌}
use Prim.Native.Nat.{ℕ, ◌-◌}
use Rattle.grammar_table.specs.Table.{part_by, part_in}
use Rattle.lake_rules.specs.Flows.{gift, succeed_gifts}
use Rattle.lake_sets.specs.steps.Steps.{pair_at, root_in}
use Rattle.lake_sets.specs.laws.Edges.{gave-nothing, gave-as, succeed-rest}
use Rattle.lake_sets.specs.laws.Edges.{gives-sequence, gives-repeat, gives-repeat1}
use Rattle.lake_sets.proofs.succeed_gift.Goals as goal

pub returns-in-2 : goal.returns-in-2
returns-in-2 c = gave-as c.args.base.now c.gift.new.base
    (gift c.node-op.result.left c.set_at.result ∷ [])
    (succeed_gifts (pair_at c.args.sets.now []) (root_in c.args.t.now)
    c.args.e
    (part_by c.node-op.result.op c.node-op.result.left
    c.node-op.result.right))
    (succeed_gifts (pair_at c.args.sets.now []) (root_in c.args.t.now)
    c.args.e
    (part_in c.args.t.now c.args.e)) c.gift.ensures
    (ap (λ (s : List ℕ). gift c.node-op.result.left s ∷ []) c.set_at.ensures ∙ gives-sequence
    (pair_at c.args.sets.now []) (root_in c.args.t.now)
    c.args.e c.node-op.result.op
    c.node-op.result.left c.node-op.result.right
    c.in-2.is) (ap
    (succeed_gifts (pair_at c.args.sets.now []) (root_in c.args.t.now)
    c.args.e) c.node-op.ensures.0)

pub returns-then-op-lt5 : goal.returns-then-op-lt5
returns-then-op-lt5 c = gave-as c.args.base.now c.args.base.now [] (succeed_gifts (pair_at c.args.sets.now []) (root_in c.args.t.now) c.args.e (part_by c.node-op.result.op
    c.node-op.result.left c.node-op.result.right)) (succeed_gifts (pair_at c.args.sets.now []) (root_in c.args.t.now) c.args.e (part_in c.args.t.now c.args.e)) (gave-nothing
    c.args.base.now)
    (succeed-rest (pair_at c.args.sets.now []) (root_in c.args.t.now) c.args.e c.node-op.result.op c.node-op.result.left c.node-op.result.right (λ e. let z : ⊥ = omega (arith, e)
    in z) (λ e. let z : ⊥ = omega (arith, e) in z) (λ e. let z : ⊥ = omega (arith, e) in z)) (ap (succeed_gifts (pair_at c.args.sets.now []) (root_in c.args.t.now) c.args.e)
    c.node-op.ensures.0)

pub returns-in-5 : goal.returns-in-5
returns-in-5 c = gave-as c.args.base.now c.gift-in-5.new.base (gift c.node-op.result.left c.set_at-in-5.result ∷ []) (succeed_gifts (pair_at c.args.sets.now []) (root_in
    c.args.t.now) c.args.e (part_by c.node-op.result.op c.node-op.result.left c.node-op.result.right)) (succeed_gifts (pair_at c.args.sets.now []) (root_in c.args.t.now) c.args.e
    (part_in c.args.t.now c.args.e)) c.gift-in-5.ensures
    (ap (λ (s : List ℕ). gift c.node-op.result.left s ∷ []) c.set_at-in-5.ensures
    ∙ of_two (λ (k : ℕ). gift c.node-op.result.left (get_or c.args.sets.now c.node-op.result.left empty) ∷ [] ≡ succeed_gifts (pair_at c.args.sets.now []) (root_in c.args.t.now)
    c.args.e (part_by k c.node-op.result.left c.node-op.result.right))
    c.node-op.result.op (omega arith) (omega arith) (gives-repeat (pair_at c.args.sets.now []) (root_in c.args.t.now) c.args.e 5 c.node-op.result.left c.node-op.result.right refl)
    (gives-repeat1 (pair_at c.args.sets.now []) (root_in c.args.t.now) c.args.e 6 c.node-op.result.left c.node-op.result.right refl))
    (ap (succeed_gifts (pair_at c.args.sets.now []) (root_in c.args.t.now) c.args.e) c.node-op.ensures.0)

pub returns-else-op-lt7 : goal.returns-else-op-lt7
returns-else-op-lt7 c = gave-as c.args.base.now c.args.base.now [] (succeed_gifts (pair_at c.args.sets.now []) (root_in c.args.t.now) c.args.e (part_by c.node-op.result.op
    c.node-op.result.left c.node-op.result.right)) (succeed_gifts (pair_at c.args.sets.now []) (root_in c.args.t.now) c.args.e (part_in c.args.t.now c.args.e)) (gave-nothing
    c.args.base.now)
    (succeed-rest (pair_at c.args.sets.now []) (root_in c.args.t.now) c.args.e c.node-op.result.op c.node-op.result.left c.node-op.result.right (λ e. let z : ⊥ = omega (arith, e)
    in z) (λ e. let z : ⊥ = omega (arith, e) in z) (λ e. let z : ⊥ = omega (arith, e) in z)) (ap (succeed_gifts (pair_at c.args.sets.now []) (root_in c.args.t.now) c.args.e)
    c.node-op.ensures.0)
