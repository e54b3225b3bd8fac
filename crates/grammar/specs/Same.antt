-- Equal symbols, equal terminals (01, Notation: "Literals are equal by their bytes, classes by their bytes; a literal never equals a class"),
-- and what stands where in a list. Assumes nothing: these are definitions.
use Rattle.std.specs.Prelude.{ℕ, zero, suc, Bool, true, false, cond, ◌&&◌, ◌||◌, List, [], ◌∷◌, eqb}
use Rattle.read_tokens.specs.Token.{Symbol, Leaf, name, lake, any, literal, class}

unfoldable pub same_bytes : List ℕ → List ℕ → Bool
same_bytes [] [] = true
same_bytes [] (y ∷ t) = false
same_bytes (x ∷ s) [] = false
same_bytes (x ∷ s) (y ∷ t) = eqb x y && same_bytes s t

abbrev pub same_mark : Bool → Bool → Bool
same_mark true true = true
same_mark true false = false
same_mark false true = false
same_mark false false = true

unfoldable pub same_marks : List Bool → List Bool → Bool
same_marks [] [] = true
same_marks [] (y ∷ t) = false
same_marks (x ∷ s) [] = false
same_marks (x ∷ s) (y ∷ t) = same_mark x y && same_marks s t

unfoldable pub same_symbol : Symbol → Symbol → Bool
same_symbol (name v) (name w) = same_bytes v w
same_symbol (name v) (lake w) = false
same_symbol (lake v) (name w) = false
same_symbol (lake v) (lake w) = same_bytes v w

unfoldable pub same_leaf : Leaf → Leaf → Bool
same_leaf any any = true
same_leaf any (literal w) = false
same_leaf any (class n) = false
same_leaf (literal v) any = false
same_leaf (literal v) (literal w) = same_bytes v w
same_leaf (literal v) (class n) = false
same_leaf (class m) any = false
same_leaf (class m) (literal w) = false
same_leaf (class m) (class n) = same_marks m n

module _ {A : Type 0} (same : A → A → Bool) where
  unfoldable pub is_in : A → List A → Bool
  is_in x [] = false
  is_in x (y ∷ l) = same x y || is_in x l

  -- the number of its first place, or the length where it stands nowhere
  unfoldable pub index_of : A → List A → ℕ
  index_of x [] = 0
  index_of x (y ∷ l) = cond (same x y) 0 (suc (index_of x l))

  -- "by first appearance": those of the second list that are not among the first, each once
  unfoldable pub new_in : List A → List A → List A
  new_in seen [] = []
  new_in seen (x ∷ l) = elim (is_in x seen) [ true ↦ new_in seen l | false ↦ x ∷ new_in (x ∷ seen) l ]
