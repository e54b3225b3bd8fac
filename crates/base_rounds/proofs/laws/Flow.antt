-- What sets that flow along edges reach. Assumes nothing.
use Rattle.std.specs.Prelude.{◌≡◌, refl, ◌≢◌, ◌⊎◌, List, [], ◌∷◌, ◌++◌, ℕ, zero, suc, ◌+◌, ◌*◌, ◌≤◌, ◌<◌, length, get_or, set, replicate}
use Rattle.std.proofs.Common.{sym, ap, ◌∙◌, subst, inl, inr, ⊎_elim, arith, length-set, get_or-set_same, get_or-set_other}
use Rattle.std.proofs.Math.Decide.{ℕ_discrete}
use Rattle.std.proofs.lemmas.List.{length-replicate, get_or-replicate}
use Rattle.base_facts.specs.laws.Numbers.{same?}
use Rattle.base_rounds.specs.Flow.{Edge, hand_on, flow}
use Rattle.base_rounds.specs.Rounds.{First, iter}
use Rattle.base_rounds.specs.laws.Fix.{Lattice, rounds-bound, iter-below, iter-good}
use Rattle.base_rounds.specs.laws.Cells.{Joins, Every, Below, cells}
use Rattle.base_rounds.specs.laws.Flow.{Inside}

module _ {A : Type 0} (join : A → A → A) (d : A) where
  pub flow-more : (es : List Edge) (e : Edge) (old acc : List A) → flow join d (es ++ (e ∷ [])) old acc ≡ hand_on join d e old (flow join d es old acc)
  flow-more [] e old acc = refl
  flow-more (x ∷ es) e old acc = flow-more es e old (hand_on join d x old acc)

-- the rules: what is below y is handed on along each edge
abbrev pub Flows : {A : Type 0} → Lattice A → A → List A → List Edge → Type 0
Flows L d y [] = Unit {0}
Flows L d y (e ∷ es) = L.Le (get_or y e.from d) (get_or y e.to d) × Flows L d y es

module _ {A : Type 0} (L : Lattice A) (join : A → A → A) (bot d : A) (J : Joins L join bot) (n : ℕ) where
  abbrev Fine : List A → Type 0
  Fine = Every L.Good d n

  -- a cell after a store, by whether it is the one stored
  cell : (P : A → Type 0) (l : List A) (j i : ℕ) (v : A) → length l ≡ n → j < n → (i ≡ j → P v) → P (get_or l i d) → P (get_or (set l j v) i d)
  cell P l j i v e p f g =
      ⊎_elim (λ q. subst (λ (k : ℕ). P (get_or (set l j v) k d)) (sym q) (rw (get_or-set_same l j v d (omega arith)) (f q)))
      (λ q. rw (get_or-set_other l j i v d q) g) (same? i j)

  module _ (e : Edge) (hf : e.from < n) (ht : e.to < n) (old acc : List A) (go : Fine old) (ga : Fine acc) where
    put-fine : Fine (hand_on join d e old acc)
    put-fine = record {
      long = length-set acc e.to (join (get_or acc e.to d) (get_or old e.from d)) ∙ ga.long;
      each = λ i p. cell L.Good acc e.to i (join (get_or acc e.to d) (get_or old e.from d)) ga.long ht
          (λ q. J.join-good _ _ (ga.each e.to ht) (go.each e.from hf)) (ga.each i p);
    }

    put-below : (y : List A) → Below L join bot d J n acc y → L.Le (get_or old e.from d) (get_or y e.to d) → Below L join bot d J n (hand_on join d e old acc) y
    put-below y h k i p =
        cell (λ x. L.Le x (get_or y i d)) acc e.to i (join (get_or acc e.to d) (get_or old e.from d)) ga.long ht
        (λ q. rw q (J.join-least _ _ _ (ga.each e.to ht) (go.each e.from hf) (h e.to ht) k)) (h i p)

    put-above : Below L join bot d J n acc (hand_on join d e old acc)
    put-above i p =
        cell (λ x. L.Le (get_or acc i d) x) acc e.to i (join (get_or acc e.to d) (get_or old e.from d)) ga.long ht
        (λ q. rw q (J.join-l _ _ (ga.each e.to ht) (go.each e.from hf))) (L.le_rfl (get_or acc i d))

    put-gets : L.Le (get_or old e.from d) (get_or (hand_on join d e old acc) e.to d)
    put-gets =
        rw (get_or-set_same acc e.to (join (get_or acc e.to d) (get_or old e.from d)) d (omega (arith, ga.long)))
        (J.join-r _ _ (ga.each e.to ht) (go.each e.from hf))

  below-trans : (x y z : List A) → Below L join bot d J n x y → Below L join bot d J n y z → Below L join bot d J n x z
  below-trans x y z p q i l = J.trans _ _ _ (p i l) (q i l)

  pub flow-fine : (es : List Edge) → Inside n es → (old acc : List A) → Fine old → Fine acc → Fine (flow join d es old acc)
  flow-fine [] h old acc go ga = ga
  flow-fine (e ∷ es) h old acc go ga = flow-fine es h.2 old (hand_on join d e old acc) go (put-fine e h.0 h.1 old acc go ga)

  -- what is below a state that the edges do not leave stays below it
  pub flow-below : (es : List Edge) → Inside n es → (old acc y : List A) → Fine old → Fine acc
      → Below L join bot d J n old y → Below L join bot d J n acc y → Flows L d y es → Below L join bot d J n (flow join d es old acc) y
  flow-below [] h old acc y go ga k l f = l
  flow-below (e ∷ es) h old acc y go ga k l f =
      flow-below es h.2 old (hand_on join d e old acc) y go (put-fine e h.0 h.1 old acc go ga) k
      (put-below e h.0 h.1 old acc go ga y l (J.trans _ _ _ (k e.from h.0) f.0)) f.1

  pub flow-above : (es : List Edge) → Inside n es → (old acc : List A) → Fine old → Fine acc → Below L join bot d J n acc (flow join d es old acc)
  flow-above [] h old acc go ga = λ i p. L.le_rfl (get_or acc i d)
  flow-above (e ∷ es) h old acc go ga =
      below-trans acc (hand_on join d e old acc) (flow join d es old (hand_on join d e old acc)) (put-above e h.0 h.1 old acc go ga)
      (flow-above es h.2 old (hand_on join d e old acc) go (put-fine e h.0 h.1 old acc go ga))

  pub flow-mono : (es : List Edge) → Inside n es → (old acc old' acc' : List A) → Fine old → Fine acc → Fine old' → Fine acc'
      → Below L join bot d J n old old' → Below L join bot d J n acc acc' → Below L join bot d J n (flow join d es old acc) (flow join d es old' acc')
  flow-mono [] h old acc old' acc' go ga go' ga' k l = l
  flow-mono (e ∷ es) h old acc old' acc' go ga go' ga' k l =
      flow-mono es h.2 old (hand_on join d e old acc) old' (hand_on join d e old' acc') go (put-fine e h.0 h.1 old acc go ga)
      go' (put-fine e h.0 h.1 old' acc' go' ga') k
      (put-below e h.0 h.1 old acc go ga (hand_on join d e old' acc')
      (below-trans acc acc' (hand_on join d e old' acc') l (put-above e h.0 h.1 old' acc' go' ga'))
      (J.trans _ _ _ (k e.from h.0) (put-gets e h.0 h.1 old' acc' go' ga')))

  -- a state that the edges give back has been handed on along each
  pub flow-gives : (es : List Edge) → Inside n es → (old acc y : List A) → Fine old → Fine acc → Below L join bot d J n (flow join d es old acc) y
      → Below L join bot d J n y old → Flows L d y es
  flow-gives [] h old acc y go ga k l = tt
  flow-gives (e ∷ es) h old acc y go ga k l =
      let pf = put-fine e h.0 h.1 old acc go ga in (
        J.trans _ _ _ (l e.from h.0) (J.trans _ _ _ (put-gets e h.0 h.1 old acc go ga)
            (J.trans _ _ _ (flow-above es h.2 old (hand_on join d e old acc) go pf e.to h.1) (k e.to h.1))),
        flow-gives es h.2 old (hand_on join d e old acc) y go pf k l,
      )

  -- ---- the rounds
  module _ (es : List Edge) (ins : Inside n es) (base : List A) (gb : Fine base) where
    abbrev pub step : List A → List A
    step s = flow join d es s base

    abbrev pub start : List A
    start = replicate n bot

    start_fine : Fine start
    start_fine = record { long = length-replicate n bot; each = λ i p. rw (get_or-replicate n i bot d p) J.bot-good }

    start-below : (s : List A) → Fine s → Below L join bot d J n start s
    start-below s g i p = rw (get_or-replicate n i bot d p) (J.bot-le (get_or s i d) (g.each i p))

    step-fine : (s : List A) → Fine s → Fine (step s)
    step-fine s g = flow-fine es ins s base g gb

    step-mono : (s z : List A) → Fine s → Fine z → Below L join bot d J n s z → Below L join bot d J n (step s) (step z)
    step-mono s z gs gz h = flow-mono es ins s base z base gs gb gz gb h (λ i p. L.le_rfl (get_or base i d))

    pub round-fine : (k : ℕ) → Fine (iter step start k)
    round-fine k = iter-good (cells L join bot d J n) step start start_fine step-fine step-mono k

    -- y has base, and hands on along each edge
    pub record Solution (y : List A) : Type 0 where
      pub fine : Fine y
      pub own : Below L join bot d J n base y
      pub on : Flows L d y es

    -- each round is below every solution
    pub least : (y : List A) → Solution y → (k : ℕ) → Below L join bot d J n (iter step start k) y
    least y sol zero = start-below y sol.fine
    least y sol (suc k) =
        flow-below es ins (iter step start k) base y (round-fine k) gb (least y sol k) sol.own sol.on

    -- a round that is equal to its next is a solution
    pub solves : (s : List A) → Fine s → step s ≡ s → Solution s
    solves s g e = record {
      fine = g;
      own = subst (λ (z : List A). Below L join bot d J n base z) e (flow-above es ins s base g gb);
      on = flow-gives es ins s base s g gb (subst (λ (z : List A). Below L join bot d J n z s) (sym e) (λ i p. L.le_rfl (get_or s i d))) (λ i p. L.le_rfl (get_or s i d));
    }

    -- at most n times the size of a cell
    pub bound : (k : ℕ) → ((j : ℕ) → j < k → step (iter step start j) ≡ iter step start j → ⊥) → k ≤ n * L.top
    bound k h =
        rounds-bound (cells L join bot d J n) step start start_fine step-fine step-mono start-below k h
