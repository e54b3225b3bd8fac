-- "the line and column, both from 1, of any position (LF ends a line)" (02, par. 2). Bytes are counted, and CR is nothing special.
-- Assumes nothing: these are definitions.
use Rattle.std.specs.Prelude.{ℕ, suc, Bool, cond, List, [], ◌∷◌, eqb, take}
use Rattle.base_lines.specs.declared.Place.{Place}

abbrev pub ends_line : ℕ → Bool
ends_line b = eqb b 10

-- how many lines end in these bytes
unfoldable pub ended_lines : List ℕ → ℕ
ended_lines [] = 0
ended_lines (b ∷ s) = cond (ends_line b) (suc (ended_lines s)) (ended_lines s)

-- the column behind these bytes, the first of which stands at column c
unfoldable pub column_from : ℕ → List ℕ → ℕ
column_from c [] = c
column_from c (b ∷ s) = column_from (cond (ends_line b) 1 (suc c)) s

unfoldable pub line_of : List ℕ → ℕ → ℕ
line_of s p = suc (ended_lines (take p s))

unfoldable pub column_of : List ℕ → ℕ → ℕ
column_of s p = column_from 1 (take p s)

abbrev pub place_at : List ℕ → ℕ → Place
place_at s p = record { line = line_of s p; column = column_of s p }
