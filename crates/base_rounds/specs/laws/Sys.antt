-- A system of sets: base sets, and edges given by two lists. Assumes nothing.
use Rattle.std.specs.Prelude.{◌≡◌, refl, ◌⊎◌, Bool, true, false, List, [], ◌∷◌, ◌++◌, ℕ, zero, suc, ◌+◌, ◌*◌, ◌^◌, ◌≤◌, ◌<◌, length, get_or, replicate}
use Rattle.std.proofs.Common.{sym, ap, ◌∙◌, subst, inl, inr, ⊎_elim, add-one, arith}
use Rattle.base_facts.specs.laws.Numbers.{lt-or-ge}
use Rattle.base_words.specs.Set.{union_of, empty}
use Rattle.base_rounds.specs.Rounds.{First, iter}
use Rattle.base_rounds.specs.laws.Cells.{Every}
use Rattle.base_rounds.specs.Flow.{Edge, flow, hand_on}
use Rattle.base_rounds.specs.laws.Flow.{Inside}
use Rattle.base_rounds.specs.laws.Pair.{Set2, pair, pair-joins}

abbrev pub edge : List ℕ → List ℕ → ℕ → Edge
edge src dst e = record { from = get_or src e 0; to = get_or dst e 0 }

-- the first m edges
abbrev pub edges : List ℕ → List ℕ → ℕ → List Edge
edges src dst zero = []
edges src dst (suc m) = edges src dst m ++ (edge src dst m ∷ [])

-- the state after the first m edges
abbrev pub pushed : List ℕ → List ℕ → ℕ → List (List ℕ) → List (List ℕ) → List (List ℕ)
pushed src dst m old acc = flow union_of [] (edges src dst m) old acc

-- a round
abbrev pub round_of : List ℕ → List ℕ → List (List ℕ) → List (List ℕ) → List (List ℕ)
round_of src dst base old = pushed src dst (length src) old base

abbrev pub empties : ℕ → List (List ℕ)
empties n = replicate n empty

pub record Shaped (src dst : List ℕ) (n : ℕ) : Type 0 where
  pub both : length src ≡ length dst
  pub from_in : (e : ℕ) → e < length src → get_or src e 0 < n
  pub to_in : (e : ℕ) → e < length src → get_or dst e 0 < n

abbrev pub round_at : List ℕ → List ℕ → List (List ℕ) → ℕ → List (List ℕ)
round_at src dst base k = iter (round_of src dst base) (empties (length base)) k

abbrev pub Moved : List ℕ → List ℕ → List (List ℕ) → ℕ → Type 0
Moved src dst base k = (j : ℕ) → j < k → round_of src dst base (round_at src dst base j) ≡ round_at src dst base j → ⊥

pub record Stepped (src dst : List ℕ) (base old cur next : List (List ℕ)) (r : Bool) : Type 0 where
  pub cur-is : cur ≡ round_of src dst base old
  pub next-is : next ≡ round_of src dst base old
  pub moved : r ≡ true → round_of src dst base old ≡ old → ⊥
  pub still : r ≡ false → round_of src dst base old ≡ old

pub record Solved (src dst : List ℕ) (base : List (List ℕ)) (k : ℕ) (s t : List (List ℕ)) : Type 0 where
  pub first : First (round_of src dst base) (empties (length base)) k
  pub is : s ≡ round_at src dst base k
  pub too : t ≡ round_at src dst base k
