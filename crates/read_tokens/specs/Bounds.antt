-- The table of bounds (01, Notation), and the constants of the notation, each in this one place.
-- Assumes nothing: these are definitions.
use Rattle.std.specs.Prelude.{ℕ}
use Rattle.read_tokens.specs.declared.Mode.{Mode}
use Rattle.read_tokens.specs.declared.Mode.TheVariants.{Lake, Plain}

-- grammar text, bytes
unfoldable pub text_bound : Mode → ℕ
text_bound Lake = 16384
text_bound Plain = 1048576

-- name, bytes
unfoldable pub name_bound : Mode → ℕ
name_bound Lake = 32
name_bound Plain = 38

-- open parentheses
unfoldable pub open_bound : Mode → ℕ
open_bound Lake = 32
open_bound Plain = 33

-- expressions
unfoldable pub expression_bound : Mode → ℕ
expression_bound Lake = 512
expression_bound Plain = 1024

-- symbols, and terminals with `.`
unfoldable pub symbol_bound : ℕ
symbol_bound = 64

unfoldable pub terminal_bound : ℕ
terminal_bound = 64

-- literal, bytes decoded
unfoldable pub literal_bound : ℕ
literal_bound = 64

-- expressions of a translation (refusal 7)
unfoldable pub plain_bound : ℕ
plain_bound = 1024

-- input, bytes
unfoldable pub input_bound : ℕ
input_bound = 65535

-- the deepest node
unfoldable pub depth_bound : ℕ
depth_bound = 255

-- the greatest first one of three octal digits, as a byte: `2`
unfoldable pub first_octal : ℕ
first_octal = 50

-- bytes from here on are written as themselves
unfoldable pub raw_from : ℕ
raw_from = 192

-- the words of a node
unfoldable pub node_words : ℕ
node_words = 4
