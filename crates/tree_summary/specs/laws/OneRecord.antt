-- "An added node updates one record" (02, par. 2): that of its symbol, as its change says, and no other. Assumes nothing.
use Prim.Native.Nat.{ℕ, suc, ◌+◌, ◌-◌, ◌≤◌, ◌<◌, max}
use Rattle.std.specs.Prelude.{◌≡◌, Bool, ◌&&◌, ◌||◌, leb, length}
use Rattle.std.proofs.Math.Path.{refl, ap}
use Rattle.std.proofs.Common.{◌∙◌, sym as flip, ⊎_elim, arith, leb-true, leb-false, eqb-true}
use Rattle.std.proofs.Math.Bool.{true, false, cond}
use Rattle.std.proofs.lemmas.Bool.{false≢true, eqb-false}
use mathlib.Core.List.{List, [], ◌∷◌, ◌++◌}
use Rattle.std.proofs.Math.Option.{none}
use Rattle.base_facts.specs.laws.Bools.{or-holds}
use Rattle.base_facts.specs.laws.Numbers.{lt-or-ge}
use Rattle.match_meaning.specs.Meaning.{Node}
use Rattle.tree_list.specs.Preorder.{bad_from, whole}
use Rattle.tree_summary.specs.declared.Summary.{Summary}
use Rattle.tree_summary.specs.Summary.{is_of, any_of, count_of, lies_in, covered_of, first_of, last_of, summary_of}
use Rattle.tree_summary.specs.Adding.{reach_of, bytes_added, adding, changed_by}
use Rattle.tree_summary.specs.laws.Bytes.{in_span, in-span, spanned, nothing-new, apart, lies-one, one-node}
use Rattle.tree_summary.specs.laws.Known.{sound-last}
use Rattle.tree_summary.specs.laws.Order.{FollowsAll, order}

-- ── the number of nodes, the first and the last ──
module _ (r : ℕ) (x : Node) where
  count-more : (xs : List Node) → count_of r (xs ++ (x ∷ [])) ≡ cond (is_of r x) (suc (count_of r xs)) (count_of r xs)
  unfolding count_of
  count-more [] = refl
  count-more (y ∷ ys) = rw (count-more ys) (by (is_of r y) (is_of r x))
    where
      by : (a b : Bool) → cond a (suc (cond b (suc (count_of r ys)) (count_of r ys))) (cond b (suc (count_of r ys)) (count_of r ys))
          ≡ cond b (suc (cond a (suc (count_of r ys)) (count_of r ys))) (cond a (suc (count_of r ys)) (count_of r ys))
      by true true = refl
      by true false = refl
      by false true = refl
      by false false = refl

  first_more : (k : ℕ) (xs : List Node) → first_of r k (xs ++ (x ∷ [])) ≡ cond (any_of (count_of r xs)) (first_of r k xs) (cond (is_of r x) (k + length xs) 0)
  unfolding count_of first_of
  first_more k [] = ap (λ (i : ℕ). cond (is_of r x) i 0) (omega arith)
  first_more k (y ∷ ys) = by (is_of r y) (first_more (suc k) ys ∙ ap (λ (i : ℕ). cond (any_of (count_of r ys)) (first_of r (suc k) ys) (cond (is_of r x) i 0)) (omega arith))
    where
      by : (a : Bool) → first_of r (suc k) (ys ++ (x ∷ [])) ≡ cond (any_of (count_of r ys)) (first_of r (suc k) ys) (cond (is_of r x) (k + suc (length ys)) 0)
          → cond a k (first_of r (suc k) (ys ++ (x ∷ [])))
          ≡ cond (any_of (cond a (suc (count_of r ys)) (count_of r ys))) (cond a k (first_of r (suc k) ys)) (cond (is_of r x) (k + suc (length ys)) 0)
      by true h = refl
      by false h = h

  last_more : (k : ℕ) (xs : List Node) → last_of r k (xs ++ (x ∷ [])) ≡ cond (is_of r x) (k + length xs) (last_of r k xs)
  unfolding count_of last_of
  last_more k [] = ap (λ (i : ℕ). cond (is_of r x) i 0) (omega arith)
  last_more k (y ∷ ys) =
      rw (count-more ys) (by (is_of r x) (last_more (suc k) ys ∙ ap (λ (i : ℕ). cond (is_of r x) i (last_of r (suc k) ys)) (omega arith)))
    where
      by : (b : Bool) → last_of r (suc k) (ys ++ (x ∷ [])) ≡ cond b (k + suc (length ys)) (last_of r (suc k) ys)
          → cond (any_of (cond b (suc (count_of r ys)) (count_of r ys))) (last_of r (suc k) (ys ++ (x ∷ []))) (cond (is_of r y) k 0)
          ≡ cond b (k + suc (length ys)) (cond (any_of (count_of r ys)) (last_of r (suc k) ys) (cond (is_of r y) k 0))
      by true h = h
      by false h = ap (λ (i : ℕ). cond (any_of (count_of r ys)) i (cond (is_of r y) k 0)) h

-- without a node of the symbol, there is no first one
first-none : (r k : ℕ) (xs : List Node) → cond (any_of (count_of r xs)) (first_of r k xs) 0 ≡ first_of r k xs
unfolding count_of first_of
first-none r k [] = refl
first-none r k (y ∷ ys) = by (is_of r y) (first-none r (suc k) ys)
  where
    by : (a : Bool) → cond (any_of (count_of r ys)) (first_of r (suc k) ys) 0 ≡ first_of r (suc k) ys
        → cond (any_of (cond a (suc (count_of r ys)) (count_of r ys))) (cond a k (first_of r (suc k) ys)) 0 ≡ cond a k (first_of r (suc k) ys)
    by true h = refl
    by false h = h

-- ── the bytes ──
-- a byte of a node of the symbol lies before the farthest end
lies-near : (r : ℕ) (xs : List Node) (p : ℕ) → lies_in r xs p ≡ true → p < reach_of r xs
unfolding lies_in reach_of
lies-near r [] p e = absurd (false≢true e)
lies-near r (y ∷ ys) p e = by (is_of r y) (in_span y.start y.end p) refl (λ f. lies-near r ys p f) e
  where
    by : (a b : Bool) → in_span y.start y.end p ≡ b → (lies_in r ys p ≡ true → p < reach_of r ys) → ((a && b) || lies_in r ys p) ≡ true
        → p < cond a (max y.end (reach_of r ys)) (reach_of r ys)
    by true true s f g = omega (arith, (in-span y.start y.end p s).1)
    by true false s f g = omega (arith, f g)
    by false b s f g = f g

-- a node that begins before it lies in one of them
lies-inside : (r : ℕ) (xs : List Node) (x : Node) (p : ℕ) → FollowsAll xs x → x.start < reach_of r xs → x.start ≤ p → p < x.end → lies_in r xs p ≡ true
unfolding lies_in reach_of FollowsAll
lies-inside r [] x p f h a b = absurd (omega (arith, h))
lies-inside r (y ∷ ys) x p f h a b = by (is_of r y) (λ g. lies-inside r ys x p f.1 g a b) h
  where
    in-y : x.start < y.end → in_span y.start y.end p ≡ true
    in-y g =
        spanned y.start y.end p (omega (arith, f.0.begins))
        (⊎_elim (λ (e : y.end ≤ x.start). absurd (omega arith)) (λ (e : x.end ≤ y.end). omega arith) f.0.apart)

    by : (c : Bool) → (x.start < reach_of r ys → lies_in r ys p ≡ true) → x.start < cond c (max y.end (reach_of r ys)) (reach_of r ys)
        → ((c && in_span y.start y.end p) || lies_in r ys p) ≡ true
    by true g i =
        ⊎_elim (λ (j : x.start < y.end). rw (in-y j))
        (λ (j : y.end ≤ x.start). or-holds (in_span y.start y.end p) (lies_in r ys p) (g (omega arith)))
        (lt-or-ge x.start y.end)
    by false g i = g i

module _ (r n : ℕ) (xs : List Node) (x : Node) where
  -- a node of another symbol adds no byte
  covered-other : is_of r x ≡ false → covered_of n r (xs ++ (x ∷ [])) ≡ covered_of n r xs
  covered-other other = nothing-new n r xs (x ∷ []) (λ p e. absurd (eqb-false x.symbol r other (lies-one r x p e).0))

  -- one that begins before the farthest end adds none, any other all of its own
  covered_more : is_of r x ≡ true → x.end ≤ n → FollowsAll xs x
      → covered_of n r (xs ++ (x ∷ [])) ≡ covered_of n r xs + cond (leb (reach_of r xs) x.start) (x.end - x.start) 0
  covered_more own inside follows = by (leb (reach_of r xs) x.start) refl
    where
      by : (b : Bool) → leb (reach_of r xs) x.start ≡ b → covered_of n r (xs ++ (x ∷ [])) ≡ covered_of n r xs + cond b (x.end - x.start) 0
      by true e =
          apart n r xs (x ∷ []) (λ p f g. omega (arith, leb-true (reach_of r xs) x.start e, lies-near r xs p f, (lies-one r x p g).1))
          ∙ omega (arith, one-node n r x own)
      by false e =
          nothing-new n r xs (x ∷ [])
          (λ p f. lies-inside r xs x p follows (leb-false (reach_of r xs) x.start e) (lies-one r x p f).1 (lies-one r x p f).2)
          ∙ omega arith

-- ── the record ──
same-summary : {a b c d a' b' c' d' : ℕ} {e e' : Bool} → a ≡ a' → b ≡ b' → c ≡ c' → d ≡ d' → e ≡ e'
    → ◌≡◌ {A = Summary} (record { nodes = a; bytes = b; first = c; last = d; present = e }) (record { nodes = a'; bytes = b'; first = c'; last = d'; present = e' })
same-summary f g h i j = rw (f, g, h, i, j)

pub one-record : (R n : ℕ) (xs : List Node) (x : Node) → bad_from R (whole n) 0 (xs ++ (x ∷ [])) ≡ none → (r : ℕ)
    → summary_of n (xs ++ (x ∷ [])) r ≡ cond (is_of r x) (changed_by (summary_of n xs r) (adding (length xs) (bytes_added xs x))) (summary_of n xs r)
unfolding summary_of changed_by
one-record R n xs x good r = by (is_of r x) refl
  where
    by : (b : Bool) → is_of r x ≡ b
        → summary_of n (xs ++ (x ∷ [])) r ≡ cond b (changed_by (summary_of n xs r) (adding (length xs) (bytes_added xs x))) (summary_of n xs r)
    by true own =
        let count : count_of r (xs ++ (x ∷ [])) ≡ suc (count_of r xs) = rw own at (count-more r x xs) in
        same-summary (count ∙ omega arith)
        (covered_more r n xs x own (sound-last R n xs x good).inside (order R n xs x good)
        ∙ ap (λ (s : ℕ). covered_of n r xs + cond (leb (reach_of s xs) x.start) (x.end - x.start) 0) (flip (eqb-true x.symbol r own)))
        (first_more r x 0 xs ∙ rw own (ap (λ (k : ℕ). cond (any_of (count_of r xs)) (first_of r 0 xs) k) (omega arith)))
        (last_more r x 0 xs ∙ rw own (omega arith))
        (ap any_of count)
    by false other =
        let count : count_of r (xs ++ (x ∷ [])) ≡ count_of r xs = rw other at (count-more r x xs) in
        same-summary count (covered-other r n xs x other)
        (first_more r x 0 xs ∙ rw other (first-none r 0 xs))
        (last_more r x 0 xs ∙ rw other)
        (ap any_of count)
