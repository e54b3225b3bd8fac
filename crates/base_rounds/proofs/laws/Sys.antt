-- A system of sets: base sets, and edges given by two lists. Assumes nothing.
use Rattle.std.specs.Prelude.{◌≡◌, List, [], ◌∷◌, ◌++◌, ℕ, zero, suc, ◌+◌, ◌*◌, ◌≤◌, ◌<◌, length, get_or, set}
use Rattle.std.proofs.Common.{sym, subst, ⊎_elim, add-one, arith}
use Rattle.base_facts.specs.laws.Numbers.{lt-or-ge}
use Rattle.base_words.specs.Set.{union_of, empty}
use Rattle.base_rounds.specs.laws.Cells.{Every}
use Rattle.base_rounds.specs.Flow.{Edge}
use Rattle.base_rounds.specs.laws.Flow.{Inside}
use Rattle.base_rounds.proofs.laws.Flow.{flow-more, bound}
use Rattle.base_rounds.specs.laws.Pair.{Set2, pair, pair-joins}
use Rattle.base_rounds.specs.laws.Sys.{edge, edges, pushed, round_of, round_at, Shaped, Moved}

-- one edge more, which hands on from f to t
pub pushed_more : (src dst : List ℕ) (m f t : ℕ) (old acc new : List (List ℕ)) (u : List ℕ) → f ≡ get_or src m 0 → t ≡ get_or dst m 0 → new ≡ pushed src dst m old acc
    → u ≡ union_of (get_or new t []) (get_or old f []) → set new t u ≡ pushed src dst (m + 1) old acc
pushed_more src dst m f t old acc new u p q e g = rw (g, p, q, e, add-one) (sym (flow-more union_of [] (edges src dst m) (edge src dst m) old acc))

inside-more : (n : ℕ) (es : List Edge) (e : Edge) → Inside n es → e.from < n → e.to < n → Inside n (es ++ (e ∷ []))
inside-more n [] e h p q = (p, q, tt)
inside-more n (x ∷ es) e h p q = (h.0, h.1, inside-more n es e h.2 p q)

pub inside : (src dst : List ℕ) (n m : ℕ) → m ≤ length src → Shaped src dst n → Inside n (edges src dst m)
inside src dst n zero l s = tt
inside src dst n (suc m) l s = inside-more n (edges src dst m) (edge src dst m) (inside src dst n m (omega arith) s) (s.from_in m (omega arith)) (s.to_in m (omega arith))

module _ (src dst : List ℕ) (base : List (List ℕ)) (k : ℕ) (s : List (List ℕ)) (e : s ≡ round_at src dst base k) where
  pub round-next : round_of src dst base s ≡ round_at src dst base (k + 1)
  round-next = rw (e, add-one)

  -- one more round that was not equal
  pub moved-next : Moved src dst base k → (round_of src dst base s ≡ s → ⊥) → Moved src dst base (k + 1)
  moved-next h n j p =
      ⊎_elim (λ l. h j l)
      (λ l. let q : k ≡ j = omega arith in
      subst (λ (m : ℕ). round_of src dst base (round_at src dst base m) ≡ round_at src dst base m → ⊥) q (rw e at n)) (lt-or-ge j k)

-- at most (r + t) rounds for each cell
pub few : (r t : ℕ) (src dst : List ℕ) (base : List (List ℕ)) → Shaped src dst (length base) → Every (Set2 r t) [] (length base) base
    → (k : ℕ) → Moved src dst base k → k ≤ length base * (r + t)
few r t src dst base s g k h =
    bound (pair r t) union_of empty [] (pair-joins r t) (length base) (edges src dst (length src)) (inside src dst (length base) (length src) (omega arith) s) base g k h

pub shaped-at : {src dst : List ℕ} {n m : ℕ} → Shaped src dst n → n ≡ m → Shaped src dst m
shaped-at {src} {dst} s e = subst (λ (k : ℕ). Shaped src dst k) e s
