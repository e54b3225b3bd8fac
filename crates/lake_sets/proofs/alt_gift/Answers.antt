use Rattle.std.proofs.Common.{arith, refl, ◌≡◌}
use Rattle.lake_sets.proofs.Spread.{of_three}
use mathlib.Core.List.{[]}
use mathlib.Core.Path.{sym, ap, ap₂, ◌∙◌}
use mathlib.Core.List.{List, ◌∷◌}
use Prim.Native.Nat.{ℕ, ◌-◌}
use mathlib.Core.Bool.{true, false}
use lib.ListN.{get_or}
use Rattle.base_words.specs.Set.{empty}
use Rattle.grammar_table.specs.Table.{part_by, part_in}
use Rattle.lake_rules.specs.Flows.{gift, alt_gifts}
use Rattle.lake_sets.specs.steps.Steps.{pair_at, root_in}
use Rattle.lake_sets.specs.laws.Edges.{gave-nothing, gave-two, gave-as, alt-rest}
use Rattle.lake_sets.specs.laws.Edges.{alt-choice, alt-choice-off, alt-option, alt-repeat, alt-repeat1}
use Rattle.lake_sets.proofs.alt_gift.Goals as goal

pub returns-then-flag_at : goal.returns-then-flag_at
returns-then-flag_at c = gave-as c.args.base.now c.gift-then-flag_at.new.base
    (gift c.node-op.result.left
    c.set_at.result ∷ gift
    c.node-op.result.left c.set_at-then-flag_at.result ∷ [])
    (alt_gifts (pair_at c.args.sets.now
    c.args.eps.now)
    (root_in c.args.t.now)
    (λ i. get_or c.args.succ.now i empty)
    c.args.e
    (part_by c.node-op.result.op
    c.node-op.result.left
    c.node-op.result.right))
    (alt_gifts (pair_at c.args.sets.now
    c.args.eps.now)
    (root_in c.args.t.now)
    (λ i. get_or c.args.succ.now i empty)
    c.args.e
    (part_in c.args.t.now
    c.args.e))
    (gave-two (gift c.node-op.result.left
    c.set_at.result ∷ [])
    (gift c.node-op.result.left c.set_at-then-flag_at.result ∷ [])
    c.args.base.now
    c.gift.new.base c.gift-then-flag_at.new.base
    c.gift.ensures c.gift-then-flag_at.ensures)
    (ap₂ (λ (s u : List ℕ). gift c.node-op.result.left s ∷ gift
    c.node-op.result.left u ∷ [])
    c.set_at.ensures c.set_at-then-flag_at.ensures ∙ alt-choice
    (pair_at c.args.sets.now
    c.args.eps.now)
    (root_in c.args.t.now)
    (λ i. get_or c.args.succ.now i empty)
    c.args.e
    c.node-op.result.op
    c.node-op.result.left
    c.node-op.result.right
    c.in-3.is
    (sym c.flag_at.ensures ∙ c.if-flag_at.true))
    (ap (alt_gifts (pair_at c.args.sets.now
    c.args.eps.now)
    (root_in c.args.t.now)
    (λ i. get_or c.args.succ.now i empty)
    c.args.e)
    c.node-op.ensures.0)

pub returns-else-flag_at : goal.returns-else-flag_at
returns-else-flag_at c = gave-as c.args.base.now c.gift.new.base
    (gift c.node-op.result.left c.set_at.result ∷ [])
    (alt_gifts (pair_at c.args.sets.now
    c.args.eps.now)
    (root_in c.args.t.now)
    (λ i. get_or c.args.succ.now i empty)
    c.args.e
    (part_by c.node-op.result.op c.node-op.result.left
    c.node-op.result.right))
    (alt_gifts (pair_at c.args.sets.now
    c.args.eps.now)
    (root_in c.args.t.now)
    (λ i. get_or c.args.succ.now i empty)
    c.args.e
    (part_in c.args.t.now
    c.args.e)) c.gift.ensures
    (ap (λ (s : List ℕ). gift c.node-op.result.left s ∷ [])
    c.set_at.ensures ∙ alt-choice-off
    (pair_at c.args.sets.now
    c.args.eps.now)
    (root_in c.args.t.now)
    (λ i. get_or c.args.succ.now i empty)
    c.args.e c.node-op.result.op
    c.node-op.result.left c.node-op.result.right
    c.in-3.is (sym c.flag_at.ensures ∙ c.if-flag_at.false))
    (ap (alt_gifts (pair_at c.args.sets.now
    c.args.eps.now)
    (root_in c.args.t.now)
    (λ i. get_or c.args.succ.now i empty)
    c.args.e) c.node-op.ensures.0)

pub returns-then-op-lt3 : goal.returns-then-op-lt3
returns-then-op-lt3 c = gave-as c.args.base.now c.args.base.now [] (alt_gifts (pair_at c.args.sets.now c.args.eps.now) (root_in c.args.t.now) (λ i. get_or c.args.succ.now i empty)
    c.args.e (part_by c.node-op.result.op c.node-op.result.left c.node-op.result.right)) (alt_gifts (pair_at c.args.sets.now c.args.eps.now) (root_in c.args.t.now) (λ i. get_or
    c.args.succ.now i empty) c.args.e (part_in c.args.t.now c.args.e)) (gave-nothing c.args.base.now)
    (alt-rest (pair_at c.args.sets.now c.args.eps.now) (root_in c.args.t.now) (λ i. get_or c.args.succ.now i empty) c.args.e c.node-op.result.op c.node-op.result.left
    c.node-op.result.right (λ e. let z : ⊥ = omega (arith, e) in z) (λ e. let z : ⊥ = omega (arith, e) in z) (λ e. let z : ⊥ = omega (arith, e) in z) (λ e. let z : ⊥ = omega
    (arith, e) in z)) (ap (alt_gifts (pair_at c.args.sets.now c.args.eps.now) (root_in c.args.t.now) (λ i. get_or c.args.succ.now i empty) c.args.e) c.node-op.ensures.0)

pub returns-in-4 : goal.returns-in-4
returns-in-4 c = gave-as c.args.base.now c.gift-in-4.new.base (gift c.node-op.result.left c.set_at-in-4.result ∷ []) (alt_gifts (pair_at c.args.sets.now c.args.eps.now) (root_in
    c.args.t.now) (λ i. get_or c.args.succ.now i empty) c.args.e (part_by c.node-op.result.op c.node-op.result.left c.node-op.result.right)) (alt_gifts (pair_at c.args.sets.now
    c.args.eps.now) (root_in c.args.t.now) (λ i. get_or c.args.succ.now i empty) c.args.e (part_in c.args.t.now c.args.e)) c.gift-in-4.ensures
    (ap (λ (s : List ℕ). gift c.node-op.result.left s ∷ []) c.set_at-in-4.ensures
    ∙ of_three (λ (k : ℕ). gift c.node-op.result.left (get_or c.args.succ.now c.args.e empty) ∷ [] ≡ alt_gifts (pair_at c.args.sets.now c.args.eps.now) (root_in c.args.t.now) (λ
    i. get_or c.args.succ.now i empty) c.args.e (part_by k c.node-op.result.left c.node-op.result.right))
    c.node-op.result.op (omega arith) (omega arith) (alt-option (pair_at c.args.sets.now c.args.eps.now) (root_in c.args.t.now) (λ i. get_or c.args.succ.now i empty) c.args.e 4
    c.node-op.result.left c.node-op.result.right refl) (alt-repeat (pair_at c.args.sets.now c.args.eps.now) (root_in c.args.t.now) (λ i. get_or c.args.succ.now i empty)
    c.args.e 5 c.node-op.result.left c.node-op.result.right refl) (alt-repeat1 (pair_at c.args.sets.now c.args.eps.now) (root_in c.args.t.now) (λ i. get_or c.args.succ.now i
    empty) c.args.e 6 c.node-op.result.left c.node-op.result.right refl))
    (ap (alt_gifts (pair_at c.args.sets.now c.args.eps.now) (root_in c.args.t.now) (λ i. get_or c.args.succ.now i empty) c.args.e) c.node-op.ensures.0)

pub returns-else-op-lt7 : goal.returns-else-op-lt7
returns-else-op-lt7 c = gave-as c.args.base.now c.args.base.now [] (alt_gifts (pair_at c.args.sets.now c.args.eps.now) (root_in c.args.t.now) (λ i. get_or c.args.succ.now i empty)
    c.args.e (part_by c.node-op.result.op c.node-op.result.left c.node-op.result.right)) (alt_gifts (pair_at c.args.sets.now c.args.eps.now) (root_in c.args.t.now) (λ i. get_or
    c.args.succ.now i empty) c.args.e (part_in c.args.t.now c.args.e)) (gave-nothing c.args.base.now)
    (alt-rest (pair_at c.args.sets.now c.args.eps.now) (root_in c.args.t.now) (λ i. get_or c.args.succ.now i empty) c.args.e c.node-op.result.op c.node-op.result.left
    c.node-op.result.right (λ e. let z : ⊥ = omega (arith, e) in z) (λ e. let z : ⊥ = omega (arith, e) in z) (λ e. let z : ⊥ = omega (arith, e) in z) (λ e. let z : ⊥ = omega
    (arith, e) in z)) (ap (alt_gifts (pair_at c.args.sets.now c.args.eps.now) (root_in c.args.t.now) (λ i. get_or c.args.succ.now i empty) c.args.e) c.node-op.ensures.0)
