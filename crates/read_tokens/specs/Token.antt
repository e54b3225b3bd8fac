-- Names, terminals and tokens (01, Notation). Assumes nothing: these are definitions.
use Rattle.std.specs.Prelude.{ℕ, Bool, List}
use Rattle.std.proofs.Math.Option.{Option}

-- a symbol of a grammar by the bytes of its name: `name`, or the lake `<name>`; the two are never the same symbol
pub data Symbol : Type 0 where
  name lake : List ℕ → Symbol

-- a terminal by content: `.`, a literal by its bytes, a class by its 256 marks. "A literal never equals a class"
pub data Leaf : Type 0 where
  any : Leaf
  literal : List ℕ → Leaf
  class : List Bool → Leaf

-- `&` and `!`
pub data Prefix : Type 0 where
  amp bang : Prefix

-- `?`, `*` and `+`
pub data Suffix : Type 0 where
  query asterisk cross : Suffix

-- bad: whatever is no token, also one that is not finished
pub data Tok : Type 0 where
  symbol : Symbol → Tok
  leaf : Leaf → Tok
  pre : Prefix → Tok
  suf : Suffix → Tok
  arrow slash opens closes bad : Tok

-- the token at a place: `none` is the text's end; its first byte's place, and the place behind it
pub record Token : Type 0 where
  pub is : Option Tok
  pub start : ℕ
  pub next : ℕ

-- a token of the text with its first byte's place
pub record Lexeme : Type 0 where
  pub is : Tok
  pub start : ℕ
