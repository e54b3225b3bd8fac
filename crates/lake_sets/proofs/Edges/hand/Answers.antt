use Rattle.std.proofs.Common.{arith, refl, ◌≡◌, ap, ℕ, [], ◌∷◌, false, length, get_or}
use Rattle.grammar_table.specs.Table.{part_by, part_in}
use Rattle.lake_rules.specs.Flows.{edge, edge_into, when}
use Rattle.lake_sets.specs.steps.Steps.{pair_at, root_in, edges_by}
use Rattle.lake_sets.specs.laws.Edges.{grown-as, grown-nothing, by-terminal, by-occurs, by-back, by-forth, by-choice, by-option, by-repeat, by-repeat1, by-rest}
use Rattle.lake_sets.proofs.Spread.{of_three}
use Rattle.lake_sets.proofs.Edges.hand.Goals as goal

pub returns-in-1 : goal.returns-in-1
returns-in-1 c = grown-as c.args.self.now.src c.args.self.now.dst c.add_body.new.self.src c.add_body.new.self.dst c.args.self.now.count c.add_body.new.self.count (length c.args.eps.now)
    (edge_into c.args.e (root_in c.args.t.now c.node-op.result.left)) (edges_by c.args.back (pair_at [] c.args.eps.now) (root_in c.args.t.now) c.args.e (part_by
    c.node-op.result.op c.node-op.result.left c.node-op.result.right))
    (edges_by c.args.back (pair_at [] c.args.eps.now) (root_in c.args.t.now) c.args.e (part_in c.args.t.now c.args.e)) c.add_body.ensures
    (by-occurs (pair_at [] c.args.eps.now) (root_in c.args.t.now) c.args.e c.args.back c.node-op.result.op c.node-op.result.left c.node-op.result.right c.in-1.is) (ap (edges_by
    c.args.back (pair_at [] c.args.eps.now) (root_in c.args.t.now) c.args.e) c.node-op.ensures.0)

pub returns-then-back : goal.returns-then-back
returns-then-back c = grown-as c.args.self.now.src c.args.self.now.dst c.hand_on.new.self.src c.hand_on.new.self.dst c.args.self.now.count c.hand_on.new.self.count (length c.args.eps.now)
    (edge c.args.e c.node-op.result.right ∷ when (get_or c.args.eps.now c.node-op.result.right false) (edge c.args.e c.node-op.result.left)) (edges_by c.args.back (pair_at []
    c.args.eps.now) (root_in c.args.t.now) c.args.e (part_by c.node-op.result.op c.node-op.result.left c.node-op.result.right))
    (edges_by c.args.back (pair_at [] c.args.eps.now) (root_in c.args.t.now) c.args.e (part_in c.args.t.now c.args.e)) c.hand_on.ensures
    (by-back (pair_at [] c.args.eps.now) (root_in c.args.t.now) c.args.e c.args.back c.node-op.result.op c.node-op.result.left c.node-op.result.right c.in-2.is c.if-back.true) (ap
    (edges_by c.args.back (pair_at [] c.args.eps.now) (root_in c.args.t.now) c.args.e) c.node-op.ensures.0)

pub returns-else-back : goal.returns-else-back
returns-else-back c = grown-as c.args.self.now.src c.args.self.now.dst c.hand_on-else-back.new.self.src c.hand_on-else-back.new.self.dst c.args.self.now.count
    c.hand_on-else-back.new.self.count (length c.args.eps.now)
    (edge c.args.e c.node-op.result.left ∷ when (get_or c.args.eps.now c.node-op.result.left false) (edge c.args.e c.node-op.result.right)) (edges_by c.args.back (pair_at []
    c.args.eps.now) (root_in c.args.t.now) c.args.e (part_by c.node-op.result.op c.node-op.result.left c.node-op.result.right))
    (edges_by c.args.back (pair_at [] c.args.eps.now) (root_in c.args.t.now) c.args.e (part_in c.args.t.now c.args.e)) c.hand_on-else-back.ensures
    (by-forth (pair_at [] c.args.eps.now) (root_in c.args.t.now) c.args.e c.args.back c.node-op.result.op c.node-op.result.left c.node-op.result.right c.in-2.is c.if-back.false)
    (ap (edges_by c.args.back (pair_at [] c.args.eps.now) (root_in c.args.t.now) c.args.e) c.node-op.ensures.0)

pub returns-in-3 : goal.returns-in-3
returns-in-3 c = grown-as c.args.self.now.src c.args.self.now.dst c.add_two.new.self.src c.add_two.new.self.dst c.args.self.now.count c.add_two.new.self.count (length c.args.eps.now)
    (edge c.args.e c.node-op.result.left ∷ edge c.args.e c.node-op.result.right ∷ []) (edges_by c.args.back (pair_at [] c.args.eps.now) (root_in c.args.t.now) c.args.e (part_by
    c.node-op.result.op c.node-op.result.left c.node-op.result.right))
    (edges_by c.args.back (pair_at [] c.args.eps.now) (root_in c.args.t.now) c.args.e (part_in c.args.t.now c.args.e)) c.add_two.ensures
    (by-choice (pair_at [] c.args.eps.now) (root_in c.args.t.now) c.args.e c.args.back c.node-op.result.op c.node-op.result.left c.node-op.result.right c.in-3.is) (ap (edges_by
    c.args.back (pair_at [] c.args.eps.now) (root_in c.args.t.now) c.args.e) c.node-op.ensures.0)

pub returns-in-4 : goal.returns-in-4
returns-in-4 c = grown-as c.args.self.now.src c.args.self.now.dst c.add.new.self.src c.add.new.self.dst c.args.self.now.count c.add.new.self.count (length c.args.eps.now)
    (edge c.args.e c.node-op.result.left ∷ []) (edges_by c.args.back (pair_at [] c.args.eps.now) (root_in c.args.t.now) c.args.e (part_by c.node-op.result.op c.node-op.result.left
    c.node-op.result.right))
    (edges_by c.args.back (pair_at [] c.args.eps.now) (root_in c.args.t.now) c.args.e (part_in c.args.t.now c.args.e)) c.add.ensures
    (of_three (λ (k : ℕ). edge c.args.e c.node-op.result.left ∷ [] ≡ edges_by c.args.back (pair_at [] c.args.eps.now) (root_in c.args.t.now) c.args.e (part_by k
    c.node-op.result.left c.node-op.result.right)) c.node-op.result.op (omega arith) (omega arith)
    (by-option (pair_at [] c.args.eps.now) (root_in c.args.t.now) c.args.e c.args.back 4 c.node-op.result.left c.node-op.result.right refl)
    (by-repeat (pair_at [] c.args.eps.now) (root_in c.args.t.now) c.args.e c.args.back 5 c.node-op.result.left c.node-op.result.right refl)
    (by-repeat1 (pair_at [] c.args.eps.now) (root_in c.args.t.now) c.args.e c.args.back 6 c.node-op.result.left c.node-op.result.right refl)) (ap (edges_by c.args.back (pair_at []
    c.args.eps.now) (root_in c.args.t.now) c.args.e) c.node-op.ensures.0)

pub returns-then-op-lt1 : goal.returns-then-op-lt1
returns-then-op-lt1 c = grown-as c.args.self.now.src c.args.self.now.dst c.args.self.now.src c.args.self.now.dst c.args.self.now.count c.args.self.now.count (length c.args.eps.now)
    ([]) (edges_by c.args.back (pair_at [] c.args.eps.now) (root_in c.args.t.now) c.args.e (part_by c.node-op.result.op c.node-op.result.left c.node-op.result.right))
    (edges_by c.args.back (pair_at [] c.args.eps.now) (root_in c.args.t.now) c.args.e (part_in c.args.t.now c.args.e))
    (grown-nothing c.args.self.now.src c.args.self.now.dst c.args.self.now.count (length c.args.eps.now))
    (by-terminal (pair_at [] c.args.eps.now) (root_in c.args.t.now) c.args.e c.args.back c.node-op.result.op c.node-op.result.left c.node-op.result.right (omega arith)) (ap
    (edges_by c.args.back (pair_at [] c.args.eps.now) (root_in c.args.t.now) c.args.e) c.node-op.ensures.0)

pub returns-else-op-lt7 : goal.returns-else-op-lt7
returns-else-op-lt7 c = grown-as c.args.self.now.src c.args.self.now.dst c.args.self.now.src c.args.self.now.dst c.args.self.now.count c.args.self.now.count (length c.args.eps.now)
    ([]) (edges_by c.args.back (pair_at [] c.args.eps.now) (root_in c.args.t.now) c.args.e (part_by c.node-op.result.op c.node-op.result.left c.node-op.result.right))
    (edges_by c.args.back (pair_at [] c.args.eps.now) (root_in c.args.t.now) c.args.e (part_in c.args.t.now c.args.e))
    (grown-nothing c.args.self.now.src c.args.self.now.dst c.args.self.now.count (length c.args.eps.now))
    (by-rest (pair_at [] c.args.eps.now) (root_in c.args.t.now) c.args.e c.args.back c.node-op.result.op c.node-op.result.left c.node-op.result.right (λ e. let z : ⊥ = omega
    (arith, e) in z) (λ e. let z : ⊥ = omega (arith, e) in z) (λ e. let z : ⊥ = omega (arith, e) in z) (λ e. let z : ⊥ = omega (arith, e) in z) (λ e. let z : ⊥ = omega (
      arith,
      e,
    ) in z) (λ e. let z : ⊥ = omega (arith, e) in z) (λ e. let z : ⊥ = omega (arith, e) in z)) (ap (edges_by c.args.back (pair_at [] c.args.eps.now) (root_in c.args.t.now)
    c.args.e) c.node-op.ensures.0)
