-- The step of each kind of expression, in the words that code has. Assumes nothing.
use Prim.Native.Nat.{ℕ, zero, suc, ◌+◌, ◌-◌, ◌≤◌, ◌<◌}
use Rattle.std.specs.Prelude.{◌≡◌, Bool, cond, ◌⊎◌}
use Rattle.std.proofs.Math.Path.{refl}
use Rattle.std.proofs.Common.{ap, ◌∙◌, sym as flip, inl, inr, arith}
use Rattle.std.proofs.Math.Bool.{true, false}
use mathlib.Core.List.{List, [], ◌∷◌}
use Rattle.std.proofs.Math.Dec.{ltb}
use Rattle.std.proofs.Math.ListN.{length}
use borrow.Author.Tests.{ltb-true, ltb-false, eqb-true}
use Rattle.std.proofs.lemmas.Bool.{eqb-false}
use Rattle.std.specs.Prelude.{eqb}
use Rattle.grammar.specs.Exp.{Exp, sym, ter, seq, alt, opt, star, plus, ahead, never}
use Rattle.grammar_table.specs.Table.{leaf_in}
use Rattle.match_eval.specs.Eval.{leaf_at, cell_at, seq_of, rep, plus_of, ahead_of, never_of, ev}
use Rattle.match_list.specs.Nodes.{rep_n, walk_of}
use Rattle.match_eval.proofs.laws.Within.{ev-within}
use Rattle.match_eval.proofs.laws.EvalSteps.{seq-left, seq-right, seq-both, plus-fails, plus-takes, opt-fails, opt-takes, rep-ends, cell-past}
use Rattle.match_list.proofs.laws.NodeSteps.{seq-both as list-both, opt_none as list-none, opt-some as list-some, rep-ends as list-ends}
use Rattle.grammar_table.specs.Trees.{tree_of}
use Rattle.match_walks.specs.steps.Tasks.{walk, again, enter, under, walked, takes, nodes, after, rank, cost, cost_of, Step}
use Rattle.match_desk.specs.steps.Desk.{Silent}
use Rattle.match_desk.specs.steps.Parts.{shape, Made}
use Rattle.match_desk.specs.laws.Parts.{shaped}
use Rattle.match_walks.specs.steps.Picks.{Chosen}
use Rattle.match_list.proofs.laws.Rounds.{rounds-step, nodes-step}
use Rattle.match_walks.specs.laws.Steps.{cost-one, cost-less, cost-two, cost-rounds, cost-again, step-none, step-one, step-two, step_then}

rank_less : (x y d : ℕ) → y < x → rank y d < rank x d
unfolding rank
rank_less x y d h = omega arith

seq-first : (x : ℕ) (k : ℕ → ℕ) → (seq_of x k ≡ 0 → ⊥) → x ≡ 0 → ⊥
seq-first x k f z = f (flip (seq-left x k x refl z))

seq-second : (x : ℕ) (k : ℕ → ℕ) → (seq_of x k ≡ 0 → ⊥) → k (x - 1) ≡ 0 → ⊥
seq-second x k f z = f (flip (seq-right x k x (k (x - 1)) refl (seq-first x k f) refl z))

seq-place : (p a b c : ℕ) → (a ≡ 0 → ⊥) → (b ≡ 0 → ⊥) → a + b - 1 ≡ c → p + (a - 1) + (b - 1) ≡ p + (c - 1)
seq-place p zero b c f g h = absurd (f refl)
seq-place p (suc a) zero c f g h = absurd (g refl)
seq-place p (suc a) (suc b) c f g h = omega arith

plus-first : (x : ℕ) (k : ℕ → ℕ) → (plus_of x k ≡ 0 → ⊥) → x ≡ 0 → ⊥
plus-first x k f z = f (flip (plus-fails x k x refl z))

one-ahead : (x : ℕ) → (ahead_of x ≡ 0 → ⊥) → ahead_of x ≡ 1
unfolding ahead_of
one-ahead zero f = absurd (f refl)
one-ahead (suc x) f = refl

one-never : (x : ℕ) → (never_of x ≡ 0 → ⊥) → never_of x ≡ 1
unfolding never_of
one-never zero f = refl
one-never (suc x) f = absurd (f refl)

pub nonzero : (a : ℕ) → (a ≡ 0 → ⊥) → 0 < a
nonzero zero f = absurd (f refl)
nonzero (suc a) f = omega arith

by_side : (r y z x : ℕ) → (r ≤ y) ⊎ (r ≤ z) → y < x → z < x → r < x
by_side r y z x (inl h) f g = omega arith
by_side r y z x (inr h) f g = omega arith

module _ (t s cs : List ℕ) (n d p : ℕ) (inside : p ≤ length s) where
  walk-cost : (x : ℕ) → 1 ≤ cost_of (length s) (walk x d) p
  unfolding cost_of
  walk-cost x = cost-one (length s) (rank x d)

  -- `.`
  pub step-any : (x : ℕ) → x ≡ 0 → (takes t s cs n x p ≡ 0 → ⊥) → Step t s cs n (walk x d) p [] (p + 1)
  unfolding nodes after ev walk_of leaf_at
  step-any zero z f = go (ltb p (length s)) refl f
    where
      go : (b : Bool) → ltb p (length s) ≡ b → (◌≡◌ {A = ℕ} (cond b 2 0) 0 → ⊥) → Step t s cs n (walk 0 d) p [] (p + 1)
      go false e f = absurd (f refl)
      go true e f = step-none t s cs n (walk 0 d) p (p + 1) (omega (arith, ltb-true p (length s) e)) refl (rw e (omega arith)) (walk-cost 0)
  step-any (suc x) z f = absurd (omega (arith, z))

  module _ (x k l y z : ℕ) (small : x < 2048) (able : takes t s cs n x p ≡ 0 → ⊥) (made : Made t x k l y z) where
    -- its tree, where k is known
    tree_is : (j : ℕ) → k ≡ j → shape j (leaf_in t l) l (tree_of t y) (tree_of t z) ≡ tree_of t x
    tree_is j e = shaped t x k l y z j made e

    takes-is : (e : Exp ℕ) → e ≡ tree_of t x → ev s cs n e p ≡ takes t s cs n x p
    takes-is e h = ap (λ (i : Exp ℕ). ev s cs n i p) h

    able-is : (e : Exp ℕ) → e ≡ tree_of t x → ev s cs n e p ≡ 0 → ⊥
    able-is e h f = able (flip (takes-is e h) ∙ f)

    lists-is : (e : Exp ℕ) → e ≡ tree_of t x → walk_of s (λ e i. ev s cs n e i) (λ r i. under t s cs n d r i) e p ≡ walked t s cs n x d p
    lists-is e h = ap (λ (i : Exp ℕ). walk_of s (λ e i. ev s cs n e i) (λ r i. under t s cs n d r i) i p) h

    -- nothing to walk, and nothing taken
    stays : (e : Exp ℕ) → e ≡ tree_of t x → ev s cs n e p ≡ 1 → [] ≡ walk_of s (λ e i. ev s cs n e i) (λ r i. under t s cs n d r i) e p → Step t s cs n (walk x d) p [] p
    unfolding nodes after
    stays e h o w =
        step-none t s cs n (walk x d) p p inside (w ∙ lists-is e h) (omega (arith, o, takes-is e h)) (walk-cost x)

    -- one part, which takes and lists the same
    part-less : (i : ℕ) → i < x → cost_of (length s) (walk i d) p + 1 ≤ cost_of (length s) (walk x d) p
    unfolding cost_of
    part-less i h = cost-less (length s) (rank i d) (rank x d) (rank_less x i d h)

    goes_on : (e : Exp ℕ) (i : ℕ) → e ≡ tree_of t x → i < x → takes t s cs n i p ≡ ev s cs n e p
        → walked t s cs n i d p ≡ walk_of s (λ e i. ev s cs n e i) (λ r i. under t s cs n d r i) e p → Step t s cs n (walk x d) p (walk i d ∷ []) p
    unfolding nodes after
    goes_on e i h u a b =
        step-one t s cs n (walk x d) (walk i d) p inside (b ∙ lists-is e h)
        (ap (λ (v : ℕ). p + (v - 1)) (a ∙ takes-is e h)) (λ o. able (flip (a ∙ takes-is e h) ∙ o)) (part-less i u)

    pub step-leaf : (a : ℕ) → k ≡ 0 → a ≡ leaf_at s (leaf_in t l) p → (0 < a) × (p + (a - 1) ≤ length s) × Step t s cs n (walk x d) p [] (p + (a - 1))
    unfolding nodes after ev walk_of shape
    step-leaf a e h =
        let u : a ≡ takes t s cs n x p = h ∙ takes-is (ter (leaf_in t l)) (tree_is 0 e) in
        let v : p + (a - 1) ≤ length s = omega (arith, u, ev-within s cs n (tree_of t x) p inside) in (
          nonzero a (λ z. able (flip u ∙ z)),
          v,
          step-none t s cs n (walk x d) p (p + (a - 1)) v (lists-is (ter (leaf_in t l)) (tree_is 0 e)) (ap (λ (v : ℕ). p + (v - 1)) u) (walk-cost x),
        )

    pub step-symbol : k ≡ 1 → n ≤ 64 → l < 64 × Step t s cs n (walk x d) p (enter l d ∷ []) p
    unfolding nodes after ev walk_of shape cost_of
    step-symbol e h = go (ltb l n) refl
      where
        here : cell_at s cs n l p ≡ 0 → ⊥
        here = able-is (sym l) (tree_is 1 e)

        go : (b : Bool) → ltb l n ≡ b → l < 64 × Step t s cs n (walk x d) p (enter l d ∷ []) p
        go false f = absurd (here (flip (cell-past s cs n l p (ltb-false l n f))))
        go true f =
            let g : l < n = ltb-true l n f in (
              omega arith,
              step-one t s cs n (walk x d) (enter l d) p inside (lists-is (sym l) (tree_is 1 e))
                  (ap (λ (v : ℕ). p + (v - 1)) (takes-is (sym l) (tree_is 1 e))) here
                  (cost-less (length s) (rank 0 d) (rank x d) (rank_less x 0 d (omega (arith, made.left)))),
            )

    pub step-seq : k ≡ 2 → Step t s cs n (walk x d) p (walk y d ∷ walk z d ∷ []) p
    unfolding nodes after ev walk_of shape cost_of
    step-seq e =
        let u : seq_of (takes t s cs n y p) (λ m. takes t s cs n z (p + m)) ≡ takes t s cs n x p = takes-is (seq (tree_of t y) (tree_of t z)) (tree_is 2 e) in
        let f : seq_of (takes t s cs n y p) (λ m. takes t s cs n z (p + m)) ≡ 0 → ⊥ = able-is (seq (tree_of t y) (tree_of t z)) (tree_is 2 e) in
        let g : takes t s cs n y p ≡ 0 → ⊥ = seq-first (takes t s cs n y p) (λ m. takes t s cs n z (p + m)) f in
        let h : takes t s cs n z (p + (takes t s cs n y p - 1)) ≡ 0 → ⊥ = seq-second (takes t s cs n y p) (λ m. takes t s cs n z (p + m)) f in
        let v : takes t s cs n y p + takes t s cs n z (p + (takes t s cs n y p - 1)) - 1 ≡ seq_of (takes t s cs n y p) (λ m. takes t s cs n z (p + m)) =
        seq-both (takes t s cs n y p) (λ m. takes t s cs n z (p + m)) (takes t s cs n y p) (takes t s cs n z (p + (takes t s cs n y p - 1))) refl g refl h in
        step-two t s cs n (walk x d) (walk y d) (walk z d) p inside
        (list-both (takes t s cs n y p) (walked t s cs n y d p) (λ m. walked t s cs n z d (p + m)) (takes t s cs n y p) refl g ∙ lists-is (seq (tree_of t y) (tree_of t z)) (tree_is 2 e))
        (seq-place p (takes t s cs n y p) (takes t s cs n z (p + (takes t s cs n y p - 1))) (takes t s cs n x p) g h (v ∙ u)) g h
        (cost-two (length s) (rank y d) (rank z d) (rank x d) (rank_less x y d made.left) (rank_less x z d made.right))

    pub step-choice : (r : ℕ) → k ≡ 3 → Chosen t s cs n y z p r → (r < x) × (ev s cs n (alt (tree_of t y) (tree_of t z)) p ≡ 0 → ⊥) × Step t s cs n (walk x d) p (walk r d ∷ []) p
    unfolding shape
    step-choice r e h =
        let f : ev s cs n (alt (tree_of t y) (tree_of t z)) p ≡ 0 → ⊥ = able-is (alt (tree_of t y) (tree_of t z)) (tree_is 3 e) in
        let g : r < x = by_side r y z x (h.small f) made.left made.right in
        (g, f, goes_on (alt (tree_of t y) (tree_of t z)) r (tree_is 3 e) g (h.takes f) (h.lists f (λ r i. under t s cs n d r i)))

    pub step-skips : (a : ℕ) → k ≡ 4 → a ≡ takes t s cs n y p → a ≡ 0 → Step t s cs n (walk x d) p [] p
    unfolding ev walk_of shape
    step-skips a e h o = stays (opt (tree_of t y)) (tree_is 4 e) (flip (opt-fails (takes t s cs n y p) a h o)) (list-none (takes t s cs n y p) (walked t s cs n y d p) a h o)

    pub step-takes : (a : ℕ) → k ≡ 4 → a ≡ takes t s cs n y p → (a ≡ 0 → ⊥) → Step t s cs n (walk x d) p (walk y d ∷ []) p
    unfolding ev walk_of shape
    step-takes a e h f =
        goes_on (opt (tree_of t y)) y (tree_is 4 e) made.left (flip h ∙ opt-takes (takes t s cs n y p) a h f) (list-some (takes t s cs n y p) (walked t s cs n y d p) a h f)

    pub step-star : k ≡ 5 → Step t s cs n (walk x d) p (again y d ∷ []) p
    unfolding nodes after ev walk_of shape cost_of
    step-star e =
        step-one t s cs n (walk x d) (again y d) p inside (lists-is (star (tree_of t y)) (tree_is 5 e))
        (omega (arith, takes-is (star (tree_of t y)) (tree_is 5 e))) tt
        (omega (arith, cost-rounds (length s) p (rank y d) (rank y d) (rank x d) (rank_less x y d made.left) (rank_less x y d made.left)))

    pub step-plus : k ≡ 6 → Step t s cs n (walk x d) p (walk y d ∷ again y d ∷ []) p
    unfolding nodes after ev walk_of shape cost_of
    step-plus e =
        let r : ℕ → ℕ = λ m. rep (length s) (λ q. takes t s cs n y q) (p + m) in
        let u : plus_of (takes t s cs n y p) r ≡ takes t s cs n x p = takes-is (plus (tree_of t y)) (tree_is 6 e) in
        let g : takes t s cs n y p ≡ 0 → ⊥ = plus-first (takes t s cs n y p) r (able-is (plus (tree_of t y)) (tree_is 6 e)) in
        let v : takes t s cs n y p + r (takes t s cs n y p - 1) ≡ plus_of (takes t s cs n y p) r = plus-takes (takes t s cs n y p) r (takes t s cs n y p) (r (takes t s cs n y p - 1)) refl g refl in
        step-two t s cs n (walk x d) (walk y d) (again y d) p inside
        (list-both (takes t s cs n y p) (walked t s cs n y d p) (λ m. rep_n (length s) (λ q. takes t s cs n y q) (λ q. walked t s cs n y d q) (p + m)) (takes t s cs n y p) refl g
        ∙ lists-is (plus (tree_of t y)) (tree_is 6 e))
        (omega (arith, u, v, g)) g tt
        (cost-rounds (length s) (p + (takes t s cs n y p - 1)) (rank y d) (rank y d) (rank x d) (rank_less x y d made.left) (rank_less x y d made.left))

    pub guard-takes : 7 ≤ k → takes t s cs n x p ≡ 1
    unfolding ev shape
    guard-takes h = go (eqb k 7) refl
      where
        is_never : (q : ℕ) → 8 ≤ q → never (tree_of t y) ≡ shape q (leaf_in t l) l (tree_of t y) (tree_of t z)
        is_never zero l = absurd (omega (arith, l))
        is_never (suc zero) l = absurd (omega (arith, l))
        is_never (suc (suc zero)) l = absurd (omega (arith, l))
        is_never (suc (suc (suc zero))) l = absurd (omega (arith, l))
        is_never (suc (suc (suc (suc zero)))) l = absurd (omega (arith, l))
        is_never (suc (suc (suc (suc (suc zero))))) l = absurd (omega (arith, l))
        is_never (suc (suc (suc (suc (suc (suc zero)))))) l = absurd (omega (arith, l))
        is_never (suc (suc (suc (suc (suc (suc (suc zero))))))) l = absurd (omega (arith, l))
        is_never (suc (suc (suc (suc (suc (suc (suc (suc q)))))))) l = refl

        go : (b : Bool) → eqb k 7 ≡ b → takes t s cs n x p ≡ 1
        go true e =
            let u : ahead (tree_of t y) ≡ tree_of t x = tree_is 7 (eqb-true k 7 e) in
            flip (takes-is (ahead (tree_of t y)) u) ∙ one-ahead (takes t s cs n y p) (able-is (ahead (tree_of t y)) u)
        go false e =
            let f : k ≡ 7 → ⊥ = eqb-false k 7 e in
            let u : never (tree_of t y) ≡ tree_of t x = is_never k (omega (arith, f, h)) ∙ made.tree in
            flip (takes-is (never (tree_of t y)) u) ∙ one-never (takes t s cs n y p) (able-is (never (tree_of t y)) u)

  -- further rounds
  module _ (x a : ℕ) (small : x < 2048) (e : a ≡ takes t s cs n x p) where
    pub again-ends : a ≤ 1 → Step t s cs n (again x d) p [] p
    unfolding nodes after cost_of
    again-ends h =
        step-none t s cs n (again x d) p p inside (list-ends (λ q. takes t s cs n x q) (λ q. walked t s cs n x d q) (length s) p a e h)
        (omega (arith, rep-ends (λ q. takes t s cs n x q) (length s) p a e h)) (omega arith)

    pub again-more : 1 < a → Step t s cs n (again x d) p (walk x d ∷ again x d ∷ []) p
    unfolding nodes after cost_of
    again-more h =
        let g : takes t s cs n x p ≡ 0 → ⊥ = λ z. omega (arith, z, e, h) in
        let w : (q : ℕ) → q ≤ length s → takes t s cs n x q + q ≤ length s + 1 = λ q i. ev-within s cs n (tree_of t x) q i in
        let c : 1 < takes t s cs n x p = omega (arith, e, h) in
        step-two t s cs n (again x d) (walk x d) (again x d) p inside
        (nodes-step (length s) (λ q. takes t s cs n x q) (λ q. walked t s cs n x d q) w p (takes t s cs n x p) inside refl c)
        (rounds-step (length s) (λ q. takes t s cs n x q) (λ q. walked t s cs n x d q) w p (takes t s cs n x p) inside refl c) g tt
        (cost-again (length s) p (takes t s cs n x p - 1) (cost (length s) (rank x d)) (omega (arith, c)) (omega (arith, w p inside, c)))

  -- what lists no node is passed over
  pub step-silent : (x a : ℕ) → Silent (tree_of t x) → (takes t s cs n x p ≡ 0 → ⊥) → a ≡ takes t s cs n x p → (0 < a) × (p + (a - 1) ≤ length s) × Step t s cs n (walk x d) p [] (p + (a - 1))
  unfolding nodes after
  step-silent x a h able e =
      let v : p + (a - 1) ≤ length s = omega (arith, e, ev-within s cs n (tree_of t x) p inside) in (
        nonzero a (λ z. able (flip e ∙ z)),
        v,
        step-none t s cs n (walk x d) p (p + (a - 1)) v (flip (h s (λ e i. ev s cs n e i) (λ r i. under t s cs n d r i) p)) (ap (λ (v : ℕ). p + (v - 1)) e) (walk-cost x),
      )

  -- rounds from their first on
  module _ (x k l y z a : ℕ) (small : x < 2048) (able : takes t s cs n x p ≡ 0 → ⊥) (made : Made t x k l y z) (is : k ≡ 5) (e : a ≡ takes t s cs n y p) where
    pub star-ends : a ≤ 1 → Step t s cs n (walk x d) p [] p
    star-ends h = step_then t s cs n (walk x d) (again y d) p p p [] (step-star x k l y z small able made is) (again-ends y a (omega (arith, small, made.left)) e h)

    pub star-more : 1 < a → Step t s cs n (walk x d) p (walk y d ∷ again y d ∷ []) p
    star-more h =
        step_then t s cs n (walk x d) (again y d) p p p (walk y d ∷ again y d ∷ []) (step-star x k l y z small able made is)
        (again-more y a (omega (arith, small, made.left)) e h)
