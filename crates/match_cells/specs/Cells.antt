-- The work cells after they are filled: place after place from the text's end, and at each place symbol after symbol in a given order
-- (01, Meaning of a match: "work cell p·R + r .. for p from 0 to n. Later cells .. stay as they were").
-- Assumes nothing: these are definitions.
use Rattle.std.specs.Prelude.{ℕ, zero, suc, ◌+◌, ◌*◌, List, [], ◌∷◌, length, set}
use Rattle.grammar.specs.Exp.{Exp}
use Rattle.match_eval.specs.Eval.{body_of, ev}

module _ (bodies : List (Exp ℕ)) (s : List ℕ) where
  -- what symbol r takes at p, by the cells cs
  unfoldable pub body_takes : List ℕ → ℕ → ℕ → ℕ
  body_takes cs r p = ev s cs (length bodies) (body_of bodies r) p

  -- the cells after the symbols of a list have been stored at p
  unfoldable pub row_of : ℕ → List ℕ → List ℕ → List ℕ
  row_of p [] cs = cs
  row_of p (r ∷ rs) cs = row_of p rs (set cs (p * length bodies + r) (body_takes cs r p))

  -- the cells after the places below the first number have been stored, the last first
  unfoldable pub fill_of : ℕ → List ℕ → List ℕ → List ℕ
  fill_of zero order cs = cs
  fill_of (suc p) order cs = fill_of p order (row_of p order cs)

-- the cells of a grammar on a text, in what was lent
unfoldable pub cells : List (Exp ℕ) → List ℕ → List ℕ → List ℕ → List ℕ
cells bodies order s old = fill_of bodies s (length s + 1) order old
