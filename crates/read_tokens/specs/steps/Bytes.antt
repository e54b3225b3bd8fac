-- The kinds of bytes, and blanks, as the code holds them. Assumes nothing: these are definitions.
use Rattle.std.specs.Prelude.{ℕ, ◌<◌, ◌≡◌, Bool, cond, List, eqb, get_or, Option, Some, None}
use Rattle.read_tokens.specs.Kinds.{kind_at}
use Rattle.read_tokens.specs.declared.kinds.ByteKind.{ByteKind}
use Rattle.read_tokens.specs.declared.kinds.ByteKind.TheVariants.{
  Other,
  Blank,
  Letter,
  Digit,
  Hash,
  Open,
  Close,
  Slash,
  Prefix,
  Suffix,
  Dot,
  Quote,
  Class,
  Less,
}

-- the number of a kind, as `kind_at` gives it
abbrev pub number_of : ByteKind → ℕ
number_of Other = 0
number_of Blank = 1
number_of Letter = 2
number_of Digit = 3
number_of Hash = 4
number_of Open = 5
number_of Close = 6
number_of Slash = 7
number_of Prefix = 8
number_of Suffix = 9
number_of Dot = 10
number_of Quote = 11
number_of Class = 12
number_of Less = 13

-- the kind of each byte, at its place
abbrev pub Tabled : List ByteKind → Type 0
Tabled ks = (b : ℕ) → b < 256 → number_of (get_or ks b Other) ≡ kind_at b

-- what `blank_by` says of a byte: none: a token begins; else whether a comment is open behind it
abbrev pub opened : ℕ → Option Bool
opened n = cond (eqb n 2) None (Some (eqb n 1))
