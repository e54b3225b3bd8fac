-- What the rounds reach is what the definitions compute: sets within their caps, so that the count is at most "expressions times
-- (symbols + terminals)" (01), and `settle` finds it. Assumes nothing.
use Rattle.std.specs.Prelude.{ℕ, zero, suc, ◌+◌, ◌*◌, ◌≤◌, ◌<◌, ◌≡◌, refl, ◌⊎◌, Bool, true, false, cond, length, get_or, set, replicate, T}
use Rattle.std.proofs.Common.{sym, ◌∙◌, inl, inr, arith, get_or-set_same, get_or-set_other, pow_pos}
use Rattle.std.proofs.Math.Path.{ap, subst}
use Rattle.std.proofs.Math.Logic.{⊎_elim}
use mathlib.Core.List.{List, [], ◌∷◌, ◌++◌}
use Rattle.std.proofs.Math.ListN.{length-set, get_or-append, get_or-eq_default}
use Rattle.std.proofs.lemmas.List.{length-replicate, get_or-replicate, get_or_at}
use Rattle.std.proofs.Math.Seq.{set_out}
use Rattle.std.proofs.Math.Pow.{pow-lt}
use Rattle.base_facts.specs.laws.Numbers.{lt-or-ge, same?}
use Rattle.base_facts.specs.laws.Bools.{to-T}
use Rattle.base_words.specs.Set.{union_of, empty}
use Rattle.base_rounds.specs.Flow.{Edge, same_sets}
use Rattle.base_rounds.specs.Rounds.{First, iter, settled}
use Rattle.base_rounds.specs.laws.Cells.{Every}
use Rattle.base_rounds.specs.laws.Pair.{Set2, pair, pair-joins}
use Rattle.base_rounds.specs.laws.Flow.{Inside}
use Rattle.base_rounds.proofs.laws.Flow.{bound, round-fine}
use Rattle.base_rounds.proofs.laws.Run.{sets-sound, sets-whole}
use Rattle.base_rounds.proofs.laws.Settle.{settle-first}
use Rattle.grammar.specs.Parts.{Part, terminal, occurs, sequence, choice, option, repeat, repeat1, affirms, denies}
use Rattle.lake_rules.specs.Beginning.{Beginning, nothing, begin_by}
use Rattle.lake_rules.specs.Flows.{Gift, gift, when, over_parts, given, round_by, least_by, succeed_gifts, alt_gifts}
use Rattle.lake_rules.specs.laws.Wholes.{Ok}
use Rattle.grammar_table.specs.laws.Places.{get_d_any}
use Rattle.lake_rules.specs.laws.Begins.{up_begins, begins-next, begins-long}

-- k is the first round whose next is equal, and s its state
pub record Flowed (n : ℕ) (gifts : List Gift) (es : List Edge) (k : ℕ) (s : List (List ℕ)) : Type 0 where
  pub first : First (round_by n gifts es) (replicate n empty) k
  pub is : s ≡ iter (round_by n gifts es) (replicate n empty) k

of_T : (b : Bool) → T b → b ≡ true
of_T true h = refl
of_T false h = absurd h

module _ (r x : ℕ) where
  abbrev pub Good : List ℕ → Type 0
  Good = Set2 r x

  pub empty-good : Good empty
  empty-good = record { two = refl; first = pow_pos r; second = pow_pos x }

  pub union-good : (a b : List ℕ) → Good a → Good b → Good (union_of a b)
  union-good a b p q = (pair-joins r x).join-good a b p q

  cond-good : (c : Bool) (a b : List ℕ) → Good a → Good b → Good (cond c a b)
  cond-good true a b p q = p
  cond-good false a b p q = q

  -- BEGINNING
  begin-good : (m : ℕ → Bool) (at : ℕ → Beginning) (i : ℕ) → ((j : ℕ) → Good (at j).set) → (p : Part) → Ok r x i p → Good (begin_by m at p).set
  begin-good m at i h (terminal y) k = record { two = refl; first = pow_pos r; second = pow-lt k }
  begin-good m at i h (occurs s) k = record { two = refl; first = pow-lt k; second = pow_pos x }
  begin-good m at i h (sequence a b) k = cond-good (at a).eps (union_of (at a).set (at b).set) (at a).set (union-good (at a).set (at b).set (h a) (h b)) (h a)
  begin-good m at i h (choice a b) k = union-good (at a).set (at b).set (h a) (h b)
  begin-good m at i h (option a) k = h a
  begin-good m at i h (repeat a) k = h a
  begin-good m at i h (repeat1 a) k = h a
  begin-good m at i h (affirms a) k = empty-good
  begin-good m at i h (denies a) k = empty-good

  pub begins-good : (m : ℕ → Bool) (f : ℕ → Part) (n : ℕ) → ((i : ℕ) → i < n → Ok r x i (f i)) → (i : ℕ) → Good (get_or (up_begins m f n) i nothing).set
  begins-good m f zero ok i = rw (get_or-eq_default (up_begins m f 0) nothing {n = i} (let e : length (up_begins m f 0) ≡ 0 = begins-long m f 0 in omega arith)) empty-good
  begins-good m f (suc n) ok i =
      let old = begins-good m f n (λ j l. ok j (omega arith)) in
      let b = begin_by m (λ j. get_or (up_begins m f n) j nothing) (f n) in
      let e : length (up_begins m f n) ≡ n = begins-long m f n in
      ⊎_elim
      (λ l. rw (begins-next m f n, get_or-append (up_begins m f n) (b ∷ []) nothing i (omega arith)) (old i))
      (λ (l : n ≤ i). ⊎_elim
      (λ q. subst (λ (j : ℕ). Good (get_or (up_begins m f (suc n)) j nothing).set) (sym q) (rw (begins-next m f n, get_or_at (up_begins m f n) b [] nothing n e) (begin-good m (λ j. get_or (up_begins m f n) j nothing) n old (f n) (ok n (omega arith)))))
      (λ (q : i ≡ n → ⊥). rw (get_or-eq_default (up_begins m f (suc n)) nothing {n = i} (let w : length (up_begins m f (suc n)) ≡ suc n = begins-long m f (suc n) in omega arith)) empty-good)
      (same? i n))
      (lt-or-ge i n)

  -- gifts
  abbrev pub GoodGifts : List Gift → Type 0
  GoodGifts [] = Unit {0}
  GoodGifts (y ∷ l) = Good y.set × GoodGifts l

  gifts-append : (xs ys : List Gift) → GoodGifts xs → GoodGifts ys → GoodGifts (xs ++ ys)
  gifts-append [] ys p q = q
  gifts-append (y ∷ xs) ys p q = (p.0, gifts-append xs ys p.1 q)

  pub over-good : (f : ℕ → Part → List Gift) → ((i : ℕ) (p : Part) → GoodGifts (f i p)) → (i : ℕ) (ps : List Part) → GoodGifts (over_parts f i ps)
  unfolding over_parts
  over-good f h i [] = tt
  over-good f h i (p ∷ ps) = gifts-append (f i p) (over_parts f (suc i) ps) (h i p) (over-good f h (suc i) ps)

  pub succeed-good : (bs : ℕ → Beginning) (root : ℕ → ℕ) → ((j : ℕ) → Good (bs j).set) → (i : ℕ) (p : Part) → GoodGifts (succeed_gifts bs root i p)
  succeed-good bs root h i (terminal y) = tt
  succeed-good bs root h i (occurs s) = tt
  succeed-good bs root h i (sequence a b) = (h b, tt)
  succeed-good bs root h i (choice a b) = tt
  succeed-good bs root h i (option a) = tt
  succeed-good bs root h i (repeat a) = (h a, tt)
  succeed-good bs root h i (repeat1 a) = (h a, tt)
  succeed-good bs root h i (affirms a) = tt
  succeed-good bs root h i (denies a) = tt

  when-good : (b : Bool) (i : ℕ) (s : List ℕ) → Good s → GoodGifts (when b (gift i s))
  when-good true i s h = (h, tt)
  when-good false i s h = tt

  pub alt-good : (bs : ℕ → Beginning) (root : ℕ → ℕ) (succ : ℕ → List ℕ) → ((j : ℕ) → Good (bs j).set) → ((j : ℕ) → Good (succ j)) → (i : ℕ) (p : Part) → GoodGifts (alt_gifts bs root succ i p)
  alt-good bs root succ h k i (terminal y) = tt
  alt-good bs root succ h k i (occurs s) = tt
  alt-good bs root succ h k i (sequence a b) = tt
  alt-good bs root succ h k i (choice a b) = (h b, when-good (bs b).eps a (succ i) (k i))
  alt-good bs root succ h k i (option a) = (k i, tt)
  alt-good bs root succ h k i (repeat a) = (k i, tt)
  alt-good bs root succ h k i (repeat1 a) = (k i, tt)
  alt-good bs root succ h k i (affirms a) = tt
  alt-good bs root succ h k i (denies a) = tt

  pub given-good : (n : ℕ) (gs : List Gift) (acc : List (List ℕ)) → GoodGifts gs → Every Good [] n acc → Every Good [] n (given gs acc)
  unfolding given
  given-good n [] acc h e = e
  given-good n (y ∷ gs) acc h e = given-good n gs (set acc y.to (union_of (get_or acc y.to empty) y.set)) h.1 (one (lt-or-ge y.to n))
    where
      one : (y.to < n) ⊎ (n ≤ y.to) → Every Good [] n (set acc y.to (union_of (get_or acc y.to empty) y.set))
      one (inl p) = record {
        long = length-set acc y.to (union_of (get_or acc y.to empty) y.set) ∙ e.long;
        each = λ j l. ⊎_elim
            (λ q. subst (λ (k : ℕ). Good (get_or (set acc y.to (union_of (get_or acc y.to empty) y.set)) k [])) (sym q)
            (rw (get_or-set_same acc y.to (union_of (get_or acc y.to empty) y.set) [] (omega (arith, e.long)))
            (union-good (get_or acc y.to empty) y.set (subst Good (get_d_any acc y.to [] empty (omega (arith, e.long))) (e.each y.to p)) h.0)))
            (λ q. rw (get_or-set_other acc y.to j (union_of (get_or acc y.to empty) y.set) [] q) (e.each j l)) (same? j y.to);
      }
      one (inr p) = rw (set_out acc y.to (union_of (get_or acc y.to empty) y.set) (omega (arith, e.long))) e

  pub none-good : (n : ℕ) → Every Good [] n (replicate n empty)
  none-good n = record { long = length-replicate n empty; each = λ i l. rw (get_or-replicate n i empty [] l) empty-good }

  -- ---- what was reached
  module _ (n : ℕ) (gifts : List Gift) (es : List Edge) (k : ℕ) (s : List (List ℕ)) (f : Flowed n gifts es k s) (ins : Inside n es) (g : GoodGifts gifts) where
    base-good : Every Good [] n (given gifts (replicate n empty))
    base-good = given-good n gifts (replicate n empty) g (none-good n)

    pub few : k ≤ n * (r + x)
    few = bound (pair r x) union_of empty [] (pair-joins r x) n es ins (given gifts (replicate n empty)) base-good k f.first.before

    pub state-good : Every Good [] n s
    state-good = rw f.is (round-fine (pair r x) union_of empty [] (pair-joins r x) n es ins (given gifts (replicate n empty)) base-good k)

    pub state-at : (i : ℕ) → Good (get_or s i empty)
    state-at i =
        ⊎_elim (λ l. subst Good (get_d_any s i [] empty (omega (arith, state-good.long))) (state-good.each i l))
        (λ l. rw (get_or-eq_default s empty {n = i} (omega (arith, state-good.long))) empty-good) (lt-or-ge i n)

    pub least-is : least_by (n * (r + x)) n gifts es ≡ settled k s
    unfolding least_by
    least-is =
        settle-first same_sets (λ a b e. sets-sound a b (to-T (same_sets a b) e)) (λ a. of_T (same_sets a a) (sets-whole a)) (round_by n gifts es) (replicate n empty) k f.first (suc (n * (r + x))) (omega (arith, few))
        ∙ ap (settled k) (sym f.is)
