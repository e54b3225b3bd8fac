-- The kind of each byte of a grammar text, by ranges (01, Notation: "one table of 256 entries gives the kind of each byte").
-- 0 no token begins with it; 1 blank; 2 name start; 3 digit; 4 `#`; 5 `(`; 6 `)`; 7 `/`; 8 `&` `!`; 9 `?` `*` `+`; 10 `.`; 11 quote; 12 `[`; 13 `<`.
-- Assumes nothing: these are definitions.
use Rattle.std.specs.Prelude.{ℕ, cond, ◌&&◌, List, [], ◌∷◌, leb}

-- lo to hi, both included, and the kind of each byte between
pub record Range : Type 0 where
  pub lo : ℕ
  pub hi : ℕ
  pub is : ℕ

abbrev range : ℕ → ℕ → ℕ → Range
range lo hi is = record { lo = lo; hi = hi; is = is }

unfoldable pub one_of : ℕ → List Range → ℕ
one_of b [] = 0
one_of b (r ∷ rs) = cond (leb r.lo b && leb b r.hi) r.is (one_of b rs)

unfoldable pub ranges : List Range
ranges =
    range 9 10 1 ∷ range 13 13 1 ∷ range 32 32 1 ∷
    range 97 122 2 ∷ range 65 90 2 ∷ range 95 95 2 ∷
    range 48 57 3 ∷
    range 35 35 4 ∷
    range 40 40 5 ∷ range 41 41 6 ∷ range 47 47 7 ∷
    range 33 33 8 ∷ range 38 38 8 ∷
    range 42 43 9 ∷ range 63 63 9 ∷
    range 46 46 10 ∷
    range 34 34 11 ∷ range 39 39 11 ∷
    range 91 91 12 ∷
    range 60 60 13 ∷
    []

unfoldable pub kind_at : ℕ → ℕ
kind_at b = one_of b ranges
