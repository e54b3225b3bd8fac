-- What `Solved` tells: the least solution, the count's bound, and that it determines all. Assumes nothing.
use Rattle.std.specs.Prelude.{◌≡◌, refl, List, [], ◌∷◌, Bool, true, false, ◌&&◌, not, ℕ, zero, suc, ◌+◌, ◌*◌, ◌^◌, ◌≤◌, ◌<◌, length, get_or, T, eqb}
use Rattle.std.proofs.Common.{sym, ap, ◌∙◌, subst, arith, eqb→eq, eqb-true}
use Rattle.base_words.specs.Set.{union_of, empty}
use Rattle.base_rounds.specs.Rounds.{First, iter}
use Rattle.base_rounds.specs.laws.Fix.{first-unique}
use Rattle.base_rounds.specs.laws.Cells.{Every, Below}
use Rattle.base_rounds.specs.Flow.{Edge}
use Rattle.base_rounds.proofs.laws.Flow.{Solution}
use Rattle.base_rounds.proofs.laws.Flow.{least, solves, round-fine}
use Rattle.base_rounds.specs.laws.Pair.{Set2, pair, pair-joins}
use Rattle.base_rounds.specs.laws.Sys.{Shaped, Solved, edges, round_of, round_at, Moved, empties}
use Rattle.base_rounds.proofs.laws.Sys.{few, inside}

module _ (r t : ℕ) (src dst : List ℕ) (base : List (List ℕ)) (sh : Shaped src dst (length base)) (g : Every (Set2 r t) [] (length base) base) where
  -- y contains base and hands on along each edge
  abbrev pub Sol : List (List ℕ) → Type 0
  Sol = Solution (pair r t) union_of empty [] (pair-joins r t) (length base) (edges src dst (length src)) (inside src dst (length base) (length src) (omega arith) sh) base g

  abbrev pub Sub : List (List ℕ) → List (List ℕ) → Type 0
  Sub = Below (pair r t) union_of empty [] (pair-joins r t) (length base)

  module _ (k : ℕ) (s u : List (List ℕ)) (h : Solved src dst base k s u) where
    pub is-solution : Sol s
    is-solution =
        rw h.is (solves (pair r t) union_of empty [] (pair-joins r t) (length base) (edges src dst (length src)) (inside src dst (length base) (length src) (omega arith) sh) base g
        (round_at src dst base k)
        (round-fine (pair r t) union_of empty [] (pair-joins r t) (length base) (edges src dst (length src)) (inside src dst (length base) (length src) (omega arith) sh) base g k)
        h.first.stops)

    pub is-least : (y : List (List ℕ)) → Sol y → Sub s y
    is-least y q =
        rw h.is (least (pair r t) union_of empty [] (pair-joins r t) (length base) (edges src dst (length src)) (inside src dst (length base) (length src) (omega arith) sh) base g y q k)

    pub at_most : k ≤ length base * (r + t)
    at_most = few r t src dst base sh g k h.first.before

-- two answers that meet it are equal
pub solved-count : (src dst : List ℕ) (base : List (List ℕ)) (j k : ℕ) (s u s' u' : List (List ℕ)) → Solved src dst base j s u → Solved src dst base k s' u' → j ≡ k
solved-count src dst base j k s u s' u' p q = first-unique (round_of src dst base) (empties (length base)) j k p.first q.first

pub solved-sets : (src dst : List ℕ) (base : List (List ℕ)) (j k : ℕ) (s u s' u' : List (List ℕ)) → Solved src dst base j s u → Solved src dst base k s' u' → s ≡ s'
solved-sets src dst base j k s u s' u' p q = p.is ∙ ap (round_at src dst base) (solved-count src dst base j k s u s' u' p q) ∙ sym q.is
