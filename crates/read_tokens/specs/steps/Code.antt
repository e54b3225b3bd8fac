-- Tokens, characters and classes as the code holds them: a token is its kind and its places, what it holds is read again from the text.
-- Assumes nothing: these are definitions.
use Rattle.std.specs.Prelude as std
use Rattle.std.specs.Prelude.{ℕ, zero, suc, ◌+◌, ◌<◌, ◌≡◌, Bool, true, false, List, [], ◌∷◌, eqb, length, drop, replicate, MatchOption, Some, None}
use Rattle.std.proofs.Math.Option.{Option, none, some}
use Rattle.read_tokens.specs.Kinds.{kind_at}
use Rattle.read_tokens.specs.declared.Mode.{Mode}
use Rattle.read_tokens.specs.declared.Mode.TheVariants.{Lake, Plain}
use Rattle.read_tokens.specs.declared.Kind.{Kind}
use Rattle.read_tokens.specs.declared.Kind.TheVariants as kind
use Rattle.read_tokens.specs.declared.Token.{Token}
use Rattle.read_tokens.specs.declared.chars.Char.{Char}
use Rattle.read_tokens.specs.declared.chars.Count.{Count}
use Rattle.read_tokens.specs.declared.classes.Item.{Item}
use Rattle.read_tokens.specs.Token as spec
use Rattle.read_tokens.specs.Token.{Tok, name, lake, any, literal, class, amp, bang, query, asterisk, cross, symbol, leaf, pre, suf, arrow}
use Rattle.read_tokens.specs.Token.{slash, opens, closes, bad}
use Rattle.read_tokens.specs.Chars as chars
use Rattle.read_tokens.specs.Chars.{octal, Range, Body, shut, broken, char}
use Rattle.read_tokens.specs.Tokens.{tok, bad_at, name_span, lake_by, bracket}
use Rattle.read_tokens.specs.laws.Marks.{paint_all}

-- ── tokens ──
-- the kind of a token; `none` is the text's end
abbrev pub kind_of : Option Tok → Kind
kind_of none = kind.End
kind_of (some (symbol (name w))) = kind.Name
kind_of (some (symbol (lake w))) = kind.Lake
kind_of (some (leaf any)) = kind.Any
kind_of (some (leaf (literal l))) = kind.Literal
kind_of (some (leaf (class l))) = kind.Class
kind_of (some (pre amp)) = kind.Amp
kind_of (some (pre bang)) = kind.Bang
kind_of (some (suf query)) = kind.Query
kind_of (some (suf asterisk)) = kind.Asterisk
kind_of (some (suf cross)) = kind.Cross
kind_of (some arrow) = kind.Arrow
kind_of (some slash) = kind.Slash
kind_of (some opens) = kind.Opens
kind_of (some closes) = kind.Closes
kind_of (some bad) = kind.Bad

-- a number for each kind, by which kinds are told apart
abbrev pub kind_number : Kind → ℕ
kind_number kind.End = 0
kind_number kind.Name = 1
kind_number kind.Lake = 2
kind_number kind.Any = 3
kind_number kind.Literal = 4
kind_number kind.Class = 5
kind_number kind.Amp = 6
kind_number kind.Bang = 7
kind_number kind.Query = 8
kind_number kind.Asterisk = 9
kind_number kind.Cross = 10
kind_number kind.Arrow = 11
kind_number kind.Slash = 12
kind_number kind.Opens = 13
kind_number kind.Closes = 14
kind_number kind.Bad = 15

-- whether it is that of a name or a lake
abbrev pub symbolic : Kind → Bool
symbolic kind.End = false
symbolic kind.Name = true
symbolic kind.Lake = true
symbolic kind.Any = false
symbolic kind.Literal = false
symbolic kind.Class = false
symbolic kind.Amp = false
symbolic kind.Bang = false
symbolic kind.Query = false
symbolic kind.Asterisk = false
symbolic kind.Cross = false
symbolic kind.Arrow = false
symbolic kind.Slash = false
symbolic kind.Opens = false
symbolic kind.Closes = false
symbolic kind.Bad = false

-- whether it is the arrow
abbrev pub arrow_is : Option Tok → Bool
arrow_is none = false
arrow_is (some (symbol x)) = false
arrow_is (some (leaf x)) = false
arrow_is (some (pre x)) = false
arrow_is (some (suf x)) = false
arrow_is (some arrow) = true
arrow_is (some slash) = false
arrow_is (some opens) = false
arrow_is (some closes) = false
arrow_is (some bad) = false

-- the bytes of a name, a lake's without the brackets, and of a literal, decoded
abbrev pub size_of : Option Tok → ℕ
size_of none = 0
size_of (some (symbol (name w))) = length w
size_of (some (symbol (lake w))) = length w
size_of (some (leaf any)) = 0
size_of (some (leaf (literal l))) = length l
size_of (some (leaf (class l))) = 0
size_of (some (pre p)) = 0
size_of (some (suf p)) = 0
size_of (some arrow) = 0
size_of (some slash) = 0
size_of (some opens) = 0
size_of (some closes) = 0
size_of (some bad) = 0

abbrev pub made : Kind → ℕ → ℕ → ℕ → Token
made k i n z = record { kind = k; start = i; next = n; size = z }

abbrev pub coded : spec.Token → Token
coded t = made (kind_of t.is) t.start t.next (size_of t.is)

abbrev pub named : ℕ → List ℕ → spec.Token
named i w = tok (symbol (name w)) i (i + length w)

-- behind a `<` at i that is no arrow's, in lake mode
unfoldable pub laked : ℕ → List ℕ → spec.Token
laked i [] = bad_at i
laked i (b ∷ l) =
    elim (eqb (kind_at b) 2) [ true ↦ (let w : List ℕ = name_span (b ∷ l) in lake_by i w (drop (length w) (b ∷ l))) | false ↦ bad_at i ]

-- ── characters and literals ──
-- what an octal digit is worth; none: no octal digit
abbrev pub Digit : ℕ → std.Option ℕ → Type 0
Digit b r = MatchOption r (octal b ≡ false) (λ x. (octal b ≡ true) × (b ≡ 48 + x))

-- a character as the code has it; none: no character
abbrev pub char_by : ℕ → ℕ → std.Option Char
char_by b zero = None
char_by b (suc n) = Some (record { byte = b; width = suc n })

abbrev pub char_of : chars.Char → std.Option Char
char_of c = char_by c.byte c.width

-- how many items a body has, with n before it, and where it ends; none: it is broken
abbrev pub counted : ℕ → Body → std.Option Count
counted n (shut rs e) = Some (record { count = n + length rs; next = e })
counted n broken = None

-- the bytes of n characters, one after the other, from a place on
unfoldable pub literal_from : ℕ → List ℕ → ℕ → List ℕ
literal_from zero s at = []
literal_from (suc n) s at = let c : chars.Char = char (drop at s) in c.byte ∷ literal_from n s (at + c.width)

-- ── classes ──
-- an item as the code has it; none: no item
abbrev pub item_by : ℕ → ℕ → ℕ → std.Option Item
item_by a b zero = None
item_by a b (suc n) = Some (record { lo = a; hi = b; width = suc n })

abbrev pub item_of : chars.Item → std.Option Item
item_of i = item_by i.span.lo i.span.hi i.width

-- what is promised of the marks: all that is listed is set, the others are as they were; of a broken body only that it is one
abbrev pub Painted : Body → List Bool → List Bool → std.Option ℕ → Type 0
Painted (shut rs e) old new r = (r ≡ Some e) × (new ≡ paint_all rs old)
Painted broken old new r = r ≡ None

abbrev pub caret_at : Mode → ℕ → Bool
caret_at Lake b = eqb b 94
caret_at Plain b = false

-- the marks of a class, and the place behind it
pub record Class : Type 0 where
  pub marks : List Bool
  pub next : ℕ

abbrev pub class_here : List Bool → ℕ → Class
class_here l e = record { marks = l; next = e }

-- a bad class: no mark, and 0
abbrev pub no_class : Class
no_class = class_here (replicate 256 false) 0

abbrev pub class_leaf : spec.Leaf → ℕ → Class
class_leaf any e = no_class
class_leaf (literal l) e = no_class
class_leaf (class l) e = class_here l e

abbrev pub class_tok : Tok → ℕ → Class
class_tok (symbol x) e = no_class
class_tok (leaf x) e = class_leaf x e
class_tok (pre x) e = no_class
class_tok (suf x) e = no_class
class_tok arrow e = no_class
class_tok slash e = no_class
class_tok opens e = no_class
class_tok closes e = no_class
class_tok bad e = no_class

abbrev pub class_of : Option Tok → ℕ → Class
class_of none e = no_class
class_of (some t) e = class_tok t e

-- a class token's marks and the place behind it
abbrev pub class_is : spec.Token → Class
class_is t = class_of t.is t.next

-- the class whose `[` stands at a place
unfoldable pub class_at : Mode → List ℕ → ℕ → Class
class_at m s at = class_is (bracket m at (drop (suc at) s))

-- what is promised of marks that a class is read into: they are the class's, and the place is the one behind it; of a bad one only that it is one
abbrev pub Filled : Class → List Bool → std.Option ℕ → Type 0
Filled c new r = MatchOption r (no_class ≡ c) (λ n. (0 < n) × (class_here new n ≡ c))
