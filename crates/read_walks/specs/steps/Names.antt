-- Names as code compares them, by their places in the text, and the left sides that a walk has passed. Assumes nothing: these are definitions.
use Rattle.std.specs.Prelude.{ℕ, zero, suc, ◌+◌, Bool, true, false, ◌&&◌, ◌||◌, List, [], ◌∷◌, take, drop}
use Rattle.std.specs.Prelude as std
use Rattle.std.specs.Prelude.{Some, None}
use Rattle.std.proofs.Math.Option.{Option, none, some}
use Rattle.read_tokens.specs.declared.Kind.{Kind}
use Rattle.read_tokens.specs.declared.Kind.TheVariants as kind
use Rattle.read_tokens.specs.declared.Mode.{Mode}
use Rattle.read_tokens.specs.declared.Mode.TheVariants.{Lake, Plain}
use Rattle.read_tokens.specs.Token.{Symbol, Tok, name, lake, symbol, leaf, pre, suf, arrow, slash, opens, closes, bad}
use Rattle.read_tokens.specs.Token as spec
use Rattle.read_tokens.specs.Tokens.{token_at}
use Rattle.read_tokens.specs.laws.Forward.{lexemes_at}
use Rattle.grammar.specs.Same.{same_symbol, is_in}
use Rattle.read_syntax.specs.Reading.{before, left_by, reserved, starts_with}

-- n bytes from a place on
abbrev pub bytes_at : List ℕ → ℕ → ℕ → List ℕ
bytes_at s i n = take n (drop i s)

-- the symbol of a token that is a name or a lake whose name is w
abbrev pub symbol_by : Kind → List ℕ → Symbol
symbol_by kind.End w = lake w
symbol_by kind.Name w = name w
symbol_by kind.Lake w = lake w
symbol_by kind.Any w = lake w
symbol_by kind.Literal w = lake w
symbol_by kind.Class w = lake w
symbol_by kind.Amp w = lake w
symbol_by kind.Bang w = lake w
symbol_by kind.Query w = lake w
symbol_by kind.Asterisk w = lake w
symbol_by kind.Cross w = lake w
symbol_by kind.Arrow w = lake w
symbol_by kind.Slash w = lake w
symbol_by kind.Opens w = lake w
symbol_by kind.Closes w = lake w
symbol_by kind.Bad w = lake w

-- a left side h
abbrev pub hit_by : Symbol → Tok → Bool → Bool
hit_by h (symbol x) true = same_symbol h x
hit_by h (symbol x) false = false
hit_by h (leaf x) b = false
hit_by h (pre x) b = false
hit_by h (suf x) b = false
hit_by h arrow b = false
hit_by h slash b = false
hit_by h opens b = false
hit_by h closes b = false
hit_by h bad b = false

-- where a walk is, and the left sides that it has passed, the last first
pub record Walk : Type 0 where
  pub at : ℕ
  pub seen : List Symbol

abbrev pub walk : ℕ → List Symbol → Walk
walk i hs = record { at = i; seen = hs }

abbrev pub pass_by : Option Tok → ℕ → Bool → Walk → Walk
pass_by none n b w = w
pass_by (some t) n b w = walk n (left_by t b w.seen)

-- after k tokens
unfoldable pub walk_to : Mode → List ℕ → ℕ → Walk
walk_to m s zero = walk 0 []
walk_to m s (suc k) =
    let w : Walk = walk_to m s k in
    let t : spec.Token = token_at m s w.at in
    pass_by t.is t.next (before (lexemes_at m s t.next)) w

-- where the name of a symbol token begins: behind a lake's bracket
abbrev pub begun : Kind → ℕ → ℕ
begun kind.End i = i
begun kind.Name i = i
begun kind.Lake i = i + 1
begun kind.Any i = i
begun kind.Literal i = i
begun kind.Class i = i
begun kind.Amp i = i
begun kind.Bang i = i
begun kind.Query i = i
begun kind.Asterisk i = i
begun kind.Cross i = i
begun kind.Arrow i = i
begun kind.Slash i = i
begun kind.Opens i = i
begun kind.Closes i = i
begun kind.Bad i = i

-- a place as the code hands it on
abbrev pub placed : Option ℕ → std.Option ℕ
placed none = None
placed (some p) = Some p

-- "second left side, or reserved name"
abbrev pub bad4 : Mode → List Symbol → Tok → Bool → Bool
bad4 m seen (symbol h) left = reserved m h || (left && is_in same_symbol h seen)
bad4 m seen (leaf x) left = false
bad4 m seen (pre x) left = false
bad4 m seen (suf x) left = false
bad4 m seen arrow left = false
bad4 m seen slash left = false
bad4 m seen opens left = false
bad4 m seen closes left = false
bad4 m seen bad left = false

-- `lake__`
abbrev pub lake_prefix : List ℕ
lake_prefix = 108 ∷ 97 ∷ 107 ∷ 101 ∷ 95 ∷ 95 ∷ []

abbrev pub reserved_by : Mode → List ℕ → Bool
reserved_by Lake w = starts_with lake_prefix w
reserved_by Plain w = false
