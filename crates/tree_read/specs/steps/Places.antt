-- A place of a text, if what must stand before it stands there. Assumes nothing: these are definitions.
use Rattle.std.specs.Prelude.{ℕ, ◌<◌, ◌≡◌, List, length, Option, MatchOption}

-- o is place p of the text js, and none where p is past its end
abbrev pub Reached : List ℕ → ℕ → Option ℕ → Type 0
Reached js p o = MatchOption o (length js < p) (λ a. a ≡ p)
