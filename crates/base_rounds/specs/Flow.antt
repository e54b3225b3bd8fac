-- Sets that flow along edges: cell `to` gets what cell `from` has, for each edge, "all at once to the last" round (01, Lakes made plain).
-- Assumes nothing: these are definitions.
use Rattle.std.specs.Prelude.{Bool, true, false, ◌&&◌, List, [], ◌∷◌, ℕ, get_or, set, eqb}

pub record Edge : Type 0 where
  pub from : ℕ
  pub to : ℕ

module _ {A : Type 0} (join : A → A → A) (d : A) where
  -- what one edge adds to acc
  abbrev pub hand_on : Edge → List A → List A → List A
  hand_on e old acc = set acc e.to (join (get_or acc e.to d) (get_or old e.from d))

  -- what all edges add to acc, from old
  abbrev pub flow : List Edge → List A → List A → List A
  flow [] old acc = acc
  flow (e ∷ es) old acc = flow es old (hand_on e old acc)

-- whether two states are the same
abbrev pub same_words : List ℕ → List ℕ → Bool
same_words [] [] = true
same_words [] (y ∷ t) = false
same_words (x ∷ s) [] = false
same_words (x ∷ s) (y ∷ t) = eqb x y && same_words s t

abbrev pub same_sets : List (List ℕ) → List (List ℕ) → Bool
same_sets [] [] = true
same_sets [] (y ∷ t) = false
same_sets (x ∷ s) [] = false
same_sets (x ∷ s) (y ∷ t) = same_words x y && same_sets s t
