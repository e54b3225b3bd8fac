-- Rounds along the edges of the definitions, from the gifts, reach the least sets that satisfy the rules. Assumes nothing.
use Rattle.std.specs.Prelude.{ℕ, zero, suc, ◌<◌, ◌≡◌, refl, Bool, true, false, length, get_or, replicate}
use Rattle.std.proofs.Common.{sym, ◌∙◌, subst, ⊎_elim, arith, add-one, length-set, get_or-set_same, get_or-set_other}
use Rattle.std.proofs.lemmas.Bool.{false≢true}
use mathlib.Core.List.{List, [], ◌∷◌, ◌++◌}
use Rattle.std.proofs.Math.ListN.{set}
use Rattle.std.proofs.lemmas.List.{get_or-replicate}
use Rattle.base_facts.specs.laws.Numbers.{lt-or-ge, same?}
use Rattle.base_words.specs.Set.{union_of, empty}
use Rattle.base_rounds.specs.Flow.{Edge}
use Rattle.base_rounds.specs.laws.Cells.{Every, Below}
use Rattle.base_rounds.specs.laws.Pair.{Set2, In2, pair, pair-joins}
use Rattle.base_rounds.specs.laws.Flow.{Inside}
use Rattle.base_rounds.proofs.laws.Flow.{Solution}
use Rattle.base_rounds.proofs.laws.Flow.{Flows, solves, least, round-fine}
use Rattle.grammar.specs.Parts.{Part, terminal, occurs, sequence, choice, option, repeat, repeat1, affirms, denies}
use Rattle.grammar_table.specs.Table.{up_to}
use Rattle.lake_rules.specs.Beginning.{Beginning}
use Rattle.lake_rules.specs.Flows.{edge, edge_into, Gift, gift, when, over_parts, given, round_by, succeed_gifts, succeed_edges, alt_gifts, alt_edges}
use Rattle.lake_rules.specs.laws.Reached.{Flowed}
use Rattle.grammar_table.specs.laws.Places.{get_d_any}
use Rattle.lake_rules.proofs.laws.Over.{over-next, over_none}
use Rattle.lake_rules.specs.laws.Reached.{GoodGifts, given-good, none-good, union-good}
use Rattle.lake_rules.specs.Rules.{OfBody, SucceedRule, AltRule, Least}

module _ (r x : ℕ) where
  abbrev pub L : Rattle.base_rounds.specs.laws.Fix.Lattice (List ℕ)
  L = pair r x

  -- ---- edges
  flows-both : (y : List (List ℕ)) (xs ys : List Edge) → Flows L [] y xs → Flows L [] y ys → Flows L [] y (xs ++ ys)
  flows-both y [] ys p q = q
  flows-both y (e ∷ xs) ys p q = (p.0, flows-both y xs ys p.1 q)

  flows-split : (y : List (List ℕ)) (xs ys : List Edge) → Flows L [] y (xs ++ ys) → Flows L [] y xs × Flows L [] y ys
  flows-split y [] ys h = (tt, h)
  flows-split y (e ∷ xs) ys h = let q = flows-split y xs ys h.1 in ((h.0, q.0), q.1)

  flows-over : (y : List (List ℕ)) (f : ℕ → Part → List Edge) (part : ℕ → Part) (n : ℕ) → ((i : ℕ) → i < n → Flows L [] y (f i (part i))) → Flows L [] y (over_parts f 0 (up_to part n))
  flows-over y f part zero h = rw (over_none f part) tt
  flows-over y f part (suc n) h = rw (← add-one n, over-next f part n) (flows-both y (over_parts f 0 (up_to part n)) (f n (part n)) (flows-over y f part n (λ i l. h i (omega arith)))
      (h n (omega arith)))

  flows-at : (y : List (List ℕ)) (f : ℕ → Part → List Edge) (part : ℕ → Part) (n : ℕ) → Flows L [] y (over_parts f 0 (up_to part n)) → (i : ℕ) → i < n → Flows L [] y (f i (part i))
  flows-at y f part zero h i l = let z : ⊥ = omega arith in absurd z
  flows-at y f part (suc n) h i l =
      let q = flows-split y (over_parts f 0 (up_to part n)) (f n (part n)) (subst (Flows L [] y) (over-next f part n)
      (subst (λ (k : ℕ). Flows L [] y (over_parts f 0 (up_to part k))) (sym (add-one n)) h)) in
      ⊎_elim (λ p. flows-at y f part n q.0 i p) (λ p. let e : n ≡ i = omega arith in subst (λ (j : ℕ). Flows L [] y (f j (part j))) e q.1) (lt-or-ge i n)

  -- ---- gifts
  abbrev pub Got : List (List ℕ) → List Gift → Type 0
  Got y [] = Unit {0}
  Got y (g ∷ l) = In2 g.set (get_or y g.to []) × Got y l

  abbrev pub In : ℕ → List Gift → Type 0
  In n [] = Unit {0}
  In n (g ∷ l) = (g.to < n) × In n l

  got-both : (y : List (List ℕ)) (xs ys : List Gift) → Got y xs → Got y ys → Got y (xs ++ ys)
  got-both y [] ys p q = q
  got-both y (g ∷ xs) ys p q = (p.0, got-both y xs ys p.1 q)

  got-split : (y : List (List ℕ)) (xs ys : List Gift) → Got y (xs ++ ys) → Got y xs × Got y ys
  got-split y [] ys h = (tt, h)
  got-split y (e ∷ xs) ys h = let q = got-split y xs ys h.1 in ((h.0, q.0), q.1)

  got-over : (y : List (List ℕ)) (f : ℕ → Part → List Gift) (part : ℕ → Part) (n : ℕ) → ((i : ℕ) → i < n → Got y (f i (part i))) → Got y (over_parts f 0 (up_to part n))
  got-over y f part zero h = rw (over_none f part) tt
  got-over y f part (suc n) h = rw (← add-one n, over-next f part n) (got-both y (over_parts f 0 (up_to part n)) (f n (part n)) (got-over y f part n (λ i l. h i (omega arith))) (h n (omega arith)))

  got-at : (y : List (List ℕ)) (f : ℕ → Part → List Gift) (part : ℕ → Part) (n : ℕ) → Got y (over_parts f 0 (up_to part n)) → (i : ℕ) → i < n → Got y (f i (part i))
  got-at y f part zero h i l = let z : ⊥ = omega arith in absurd z
  got-at y f part (suc n) h i l =
      let q = got-split y (over_parts f 0 (up_to part n)) (f n (part n)) (subst (Got y) (over-next f part n) (subst (λ (k : ℕ). Got y (over_parts f 0 (up_to part k))) (sym (add-one n)) h)) in
      ⊎_elim (λ p. got-at y f part n q.0 i p) (λ p. let e : n ≡ i = omega arith in subst (λ (j : ℕ). Got y (f j (part j))) e q.1) (lt-or-ge i n)

  in_both : (n : ℕ) (xs ys : List Gift) → In n xs → In n ys → In n (xs ++ ys)
  in_both n [] ys p q = q
  in_both n (g ∷ xs) ys p q = (p.0, in_both n xs ys p.1 q)

  pub in-over : (m : ℕ) (f : ℕ → Part → List Gift) (part : ℕ → Part) (n : ℕ) → ((i : ℕ) → i < n → In m (f i (part i))) → In m (over_parts f 0 (up_to part n))
  in-over m f part zero h = rw (over_none f part) tt
  in-over m f part (suc n) h = rw (← add-one n, over-next f part n) (in_both m (over_parts f 0 (up_to part n)) (f n (part n)) (in-over m f part n (λ i l. h i (omega arith))) (h n (omega arith)))

  module _ (n : ℕ) where
    abbrev Sub : List (List ℕ) → List (List ℕ) → Type 0
    Sub = Below L union_of empty [] (pair-joins r x) n

    cell : (P : List ℕ → Type 0) (l : List (List ℕ)) (j i : ℕ) (v : List ℕ) → length l ≡ n → j < n → (i ≡ j → P v) → P (get_or l i []) → P (get_or (set l j v) i [])
    cell P l j i v e p f g =
        ⊎_elim (λ q. subst (λ (k : ℕ). P (get_or (set l j v) k [])) (sym q) (rw (get_or-set_same l j v [] (omega arith)) (f q)))
        (λ q. rw (get_or-set_other l j i v [] q) g) (same? i j)

    one-good : (g : Gift) (acc : List (List ℕ)) → g.to < n → Set2 r x g.set → Every (Set2 r x) [] n acc → Every (Set2 r x) [] n (set acc g.to (union_of (get_or acc g.to empty) g.set))
    one-good g acc p q e = record {
      long = length-set acc g.to (union_of (get_or acc g.to empty) g.set) ∙ e.long;
      each = λ j l. cell (Set2 r x) acc g.to j (union_of (get_or acc g.to empty) g.set) e.long p
          (λ u. union-good r x (get_or acc g.to empty) g.set (subst (Set2 r x) (get_d_any acc g.to [] empty (omega (arith, e.long))) (e.each g.to p)) q) (e.each j l);
    }

    -- what was there and what is given stays below what has both
    given_below : (gs : List Gift) (acc y : List (List ℕ)) → In n gs → GoodGifts r x gs → Every (Set2 r x) [] n acc → Sub acc y → Got y gs → Sub (given gs acc) y
    unfolding given
    given_below [] acc y i q e s g = s
    given_below (h ∷ gs) acc y i q e s g =
        given_below gs (set acc h.to (union_of (get_or acc h.to empty) h.set)) y i.1 q.1 (one-good h acc i.0 q.0 e)
        (λ j l. cell (λ (z : List ℕ). In2 z (get_or y j [])) acc h.to j (union_of (get_or acc h.to empty) h.set) e.long i.0
        (λ u. rw u ((pair-joins r x).join-least (get_or acc h.to empty) h.set (get_or y h.to [])
        (subst (Set2 r x) (get_d_any acc h.to [] empty (omega (arith, e.long))) (e.each h.to i.0)) q.0
        (subst (λ (z : List ℕ). In2 z (get_or y h.to [])) (get_d_any acc h.to [] empty (omega (arith, e.long))) (s h.to i.0)) g.0))
        (s j l)) g.1

    -- and is there
    given_above : (gs : List Gift) (acc : List (List ℕ)) → In n gs → GoodGifts r x gs → Every (Set2 r x) [] n acc → Sub acc (given gs acc)
    unfolding given
    given_above [] acc i q e = λ j l. L.le_rfl (get_or acc j [])
    given_above (h ∷ gs) acc i q e = λ j l.
        (pair-joins r x).trans (get_or acc j []) (get_or (set acc h.to (union_of (get_or acc h.to empty) h.set)) j [])
        (get_or (given gs (set acc h.to (union_of (get_or acc h.to empty) h.set))) j [])
        (cell (λ (z : List ℕ). In2 (get_or acc j []) z) acc h.to j (union_of (get_or acc h.to empty) h.set) e.long i.0
        (λ u. rw (u, get_d_any acc h.to [] empty (omega (arith, e.long))) ((pair-joins r x).join-l (get_or acc h.to empty) h.set
        (subst (Set2 r x) (get_d_any acc h.to [] empty (omega (arith, e.long))) (e.each h.to i.0)) q.0))
        (L.le_rfl (get_or acc j [])))
        (given_above gs (set acc h.to (union_of (get_or acc h.to empty) h.set)) i.1 q.1 (one-good h acc i.0 q.0 e) j l)

    given-got : (gs : List Gift) (acc y : List (List ℕ)) → In n gs → GoodGifts r x gs → Every (Set2 r x) [] n acc → Sub (given gs acc) y → Got y gs
    unfolding given
    given-got [] acc y i q e s = tt
    given-got (h ∷ gs) acc y i q e s =
        let acc' = set acc h.to (union_of (get_or acc h.to empty) h.set) in
        let e' : Every (Set2 r x) [] n acc' = one-good h acc i.0 q.0 e in (
          (pair-joins r x).trans h.set (get_or acc' h.to []) (get_or y h.to [])
              (rw (get_or-set_same acc h.to (union_of (get_or acc h.to empty) h.set) [] (omega (arith, e.long, i.0)))
              ((pair-joins r x).join-r (get_or acc h.to empty) h.set (subst (Set2 r x) (get_d_any acc h.to [] empty (omega (arith, e.long))) (e.each h.to i.0)) q.0))
              ((pair-joins r x).trans (get_or acc' h.to []) (get_or (given gs acc') h.to []) (get_or y h.to []) (given_above gs acc' i.1 q.1 e' h.to i.0) (s h.to i.0)),
          given-got gs acc' y i.1 q.1 e' s,
        )

    pub none_below : (y : List (List ℕ)) → Every (Set2 r x) [] n y → Sub (replicate n empty) y
    none_below y e i l = rw (get_or-replicate n i empty [] l) ((pair-joins r x).bot-le (get_or y i []) (e.each i l))

    -- ---- rules that are gifts and edges
    module _ (part : ℕ → Part) (rule : (ℕ → List ℕ) → ℕ → Part → Type 0) (fg : ℕ → Part → List Gift) (fe : ℕ → Part → List Edge)
        (to : (y : List (List ℕ)) (i : ℕ) → i < n → rule (λ j. get_or y j []) i (part i) → Got y (fg i (part i)) × Flows L [] y (fe i (part i)))
        (from : (y : List (List ℕ)) (i : ℕ) → i < n → Got y (fg i (part i)) → Flows L [] y (fe i (part i)) → rule (λ j. get_or y j []) i (part i))
        (ins : Inside n (over_parts fe 0 (up_to part n))) (good : GoodGifts r x (over_parts fg 0 (up_to part n))) (gin : In n (over_parts fg 0 (up_to part n))) where
      abbrev gs : List Gift
      gs = over_parts fg 0 (up_to part n)

      abbrev es : List Edge
      es = over_parts fe 0 (up_to part n)

      abbrev base : List (List ℕ)
      base = given gs (replicate n empty)

      base-good : Every (Set2 r x) [] n base
      base-good = given-good r x n gs (replicate n empty) good (none-good r x n)

      pub least-solves : (k : ℕ) (s : List (List ℕ)) → Flowed n gs es k s → Least r x n part rule s
      least-solves k s f =
          let fine : Every (Set2 r x) [] n s = rw f.is (round-fine L union_of empty [] (pair-joins r x) n es ins base base-good k) in
          let sol : Solution L union_of empty [] (pair-joins r x) n es ins base base-good s
          = solves L union_of empty [] (pair-joins r x) n es ins base base-good s fine (subst (λ (z : List (List ℕ)). round_by n gs es z ≡ z) (sym f.is) f.first.stops) in
          let got : Got s gs = given-got gs (replicate n empty) s gin good (none-good r x n) sol.own in
          record {
            solves = record { sets = fine; rules = λ i l. from s i l (got-at s fg part n got i l) (flows-at s fe part n sol.on i l) };
            within = λ y h.
                let sy : Solution L union_of empty [] (pair-joins r x) n es ins base base-good y
                = record {
                  fine = h.sets;
                  own = given_below gs (replicate n empty) y gin good (none-good r x n) (none_below y h.sets)
                      (got-over y fg part n (λ i l. (to y i l (h.rules i l)).0));
                  on = flows-over y fe part n (λ i l. (to y i l (h.rules i l)).1);
                } in
                λ i l. rw f.is (least L union_of empty [] (pair-joins r x) n es ins base base-good y sy k i l);
          }

  -- ---- SUCCEED
  module _ (bs : ℕ → Beginning) (root : ℕ → ℕ) where
    may-to : (b : Bool) (y : List (List ℕ)) (i j : ℕ) → (b ≡ true → In2 (get_or y i []) (get_or y j [])) → Flows L [] y (when b (edge i j))
    may-to true y i j h = (h refl, tt)
    may-to false y i j h = tt

    may-from : (b : Bool) (y : List (List ℕ)) (i j : ℕ) → Flows L [] y (when b (edge i j)) → b ≡ true → In2 (get_or y i []) (get_or y j [])
    may-from true y i j h e = h.0
    may-from false y i j h e = absurd (false≢true e)

    give-to : (b : Bool) (y : List (List ℕ)) (s : List ℕ) (j : ℕ) → (b ≡ true → In2 s (get_or y j [])) → Got y (when b (gift j s))
    give-to true y s j h = (h refl, tt)
    give-to false y s j h = tt

    give-from : (b : Bool) (y : List (List ℕ)) (s : List ℕ) (j : ℕ) → Got y (when b (gift j s)) → b ≡ true → In2 s (get_or y j [])
    give-from true y s j h e = h.0
    give-from false y s j h e = absurd (false≢true e)

    into-to : (y : List (List ℕ)) (i k : ℕ) → OfBody k (λ e. In2 (get_or y i []) (get_or y e [])) → Flows L [] y (edge_into i k)
    into-to y i zero h = tt
    into-to y i (suc e) h = (h, tt)

    into-from : (y : List (List ℕ)) (i k : ℕ) → Flows L [] y (edge_into i k) → OfBody k (λ e. In2 (get_or y i []) (get_or y e []))
    into-from y i zero h = tt
    into-from y i (suc e) h = h.0

    pub succeed-to : (y : List (List ℕ)) (i : ℕ) (p : Part) → SucceedRule bs root (λ j. get_or y j []) i p → Got y (succeed_gifts bs root i p) × Flows L [] y (succeed_edges bs root i p)
    succeed-to y i (terminal t) h = (tt, tt)
    succeed-to y i (occurs s) h = (tt, into-to y i (root s) h)
    succeed-to y i (sequence a b) h = ((h.1, tt), (h.0, may-to (bs b).eps y i a h.2))
    succeed-to y i (choice a b) h = (tt, (h.0, (h.1, tt)))
    succeed-to y i (option a) h = (tt, (h, tt))
    succeed-to y i (repeat a) h = ((h.0, tt), (h.1, tt))
    succeed-to y i (repeat1 a) h = ((h.0, tt), (h.1, tt))
    succeed-to y i (affirms a) h = (tt, tt)
    succeed-to y i (denies a) h = (tt, tt)

    pub succeed-from : (y : List (List ℕ)) (i : ℕ) (p : Part) → Got y (succeed_gifts bs root i p) → Flows L [] y (succeed_edges bs root i p) → SucceedRule bs root (λ j. get_or y j []) i p
    succeed-from y i (terminal t) g e = tt
    succeed-from y i (occurs s) g e = into-from y i (root s) e
    succeed-from y i (sequence a b) g e = (e.0, g.0, may-from (bs b).eps y i a e.1)
    succeed-from y i (choice a b) g e = (e.0, e.1.0)
    succeed-from y i (option a) g e = e.0
    succeed-from y i (repeat a) g e = (g.0, e.0)
    succeed-from y i (repeat1 a) g e = (g.0, e.0)
    succeed-from y i (affirms a) g e = tt
    succeed-from y i (denies a) g e = tt

    -- ---- ALT
    pub alt-to : (succ : ℕ → List ℕ) (y : List (List ℕ)) (i : ℕ) (p : Part) → AltRule bs root succ (λ j. get_or y j []) i p → Got y (alt_gifts bs root succ i p) × Flows L [] y (alt_edges bs root i p)
    alt-to succ y i (terminal t) h = (tt, tt)
    alt-to succ y i (occurs s) h = (tt, into-to y i (root s) h)
    alt-to succ y i (sequence a b) h = (tt, (h.0, may-to (bs a).eps y i b h.1))
    alt-to succ y i (choice a b) h = ((h.2, give-to (bs b).eps y (succ i) a h.3), (h.0, (h.1, tt)))
    alt-to succ y i (option a) h = ((h.1, tt), (h.0, tt))
    alt-to succ y i (repeat a) h = ((h.1, tt), (h.0, tt))
    alt-to succ y i (repeat1 a) h = ((h.1, tt), (h.0, tt))
    alt-to succ y i (affirms a) h = (tt, tt)
    alt-to succ y i (denies a) h = (tt, tt)

    pub alt-from : (succ : ℕ → List ℕ) (y : List (List ℕ)) (i : ℕ) (p : Part) → Got y (alt_gifts bs root succ i p) → Flows L [] y (alt_edges bs root i p) → AltRule bs root succ (λ j. get_or y j []) i p
    alt-from succ y i (terminal t) g e = tt
    alt-from succ y i (occurs s) g e = into-from y i (root s) e
    alt-from succ y i (sequence a b) g e = (e.0, may-from (bs a).eps y i b e.1)
    alt-from succ y i (choice a b) g e = (e.0, e.1.0, g.0, give-from (bs b).eps y (succ i) a g.1)
    alt-from succ y i (option a) g e = (e.0, g.0)
    alt-from succ y i (repeat a) g e = (e.0, g.0)
    alt-from succ y i (repeat1 a) g e = (e.0, g.0)
    alt-from succ y i (affirms a) g e = tt
    alt-from succ y i (denies a) g e = tt
