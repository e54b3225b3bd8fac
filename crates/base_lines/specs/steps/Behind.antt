-- The place behind a byte, by the place before it, and a pass over the bytes. Assumes nothing: these are definitions.
use Rattle.std.specs.Prelude.{ℕ, suc, ◌≤◌, ◌≡◌, cond, List, length}
use Rattle.base_lines.specs.declared.Place.{Place}
use Rattle.base_lines.specs.Lines.{ends_line, place_at}

unfoldable pub behind : Place → ℕ → Place
behind at b = record { line = cond (ends_line b) (suc at.line) at.line; column = cond (ends_line b) 1 (suc at.column) }

-- the bytes before i are counted, of those up to `to`
pub record Counted (s : List ℕ) (to i : ℕ) (at : Place) : Type 0 where
  pub is : at ≡ place_at s i
  pub reached : i ≤ to
  pub within : to ≤ length s
