-- Refusal 3, "name, literal or parenthesis over its bound" (01, Refusal numbers, by the table of bounds in Notation): what `over` of `Machine` is held to.
-- Assumes nothing: these are definitions.
use Rattle.std.specs.Prelude.{ℕ, ◌≤◌, ◌<◌, List, length}
use Rattle.read_tokens.specs.declared.Mode.{Mode}
use Rattle.read_tokens.specs.Bounds.{name_bound, literal_bound, open_bound}
use Rattle.read_tokens.specs.Token.{Tok, name, lake, literal, symbol, leaf, opens}

-- a token over its bound, where d parentheses are open before it
pub data Exceeds (m : Mode) (d : ℕ) : Tok → Type 0 where
  long-name : {w : List ℕ} → name_bound m < length w → Exceeds m d (symbol (name w))
  -- "name, bytes": a lake's is what stands between its brackets
  long-lake : {w : List ℕ} → name_bound m < length w → Exceeds m d (symbol (lake w))
  -- "Literal: 64 bytes decoded"
  long-literal : {bs : List ℕ} → literal_bound < length bs → Exceeds m d (leaf (literal bs))
  -- "open parentheses": with this one they are d + 1
  one-too-many : open_bound m ≤ d → Exceeds m d opens
