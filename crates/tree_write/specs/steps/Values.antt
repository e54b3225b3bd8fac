-- Strings and numbers of a JSON text, as the code makes them. Assumes nothing: these are definitions.
use Rattle.std.specs.Prelude.{ℕ, ◌/◌, ◌%◌, cond, List, [], ◌∷◌, ltb}
use Rattle.tree_json.specs.Json.{hex_digit, digit_of}

-- \u00XX
abbrev pub escaped : ℕ → List ℕ
escaped c = 92 ∷ 117 ∷ 48 ∷ 48 ∷ hex_digit (c / 16) ∷ hex_digit (c % 16) ∷ []

-- the digit of n that counts k, if n reaches k
abbrev pub lead : ℕ → ℕ → List ℕ
lead k n = cond (ltb n k) [] (digit_of k n ∷ [])
