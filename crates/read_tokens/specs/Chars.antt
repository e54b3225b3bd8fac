-- A character of a literal or a class, an item of a class, and the one loop that reads either up to its closing byte (01, Notation, "Escapes").
-- Assumes nothing: these are definitions.
use Rattle.std.specs.Prelude.{ℕ, zero, suc, ◌+◌, ◌-◌, ◌*◌, Bool, true, false, cond, ◌&&◌, List, [], ◌∷◌, eqb, leb, drop, get_or}
use Rattle.read_tokens.specs.Bounds.{first_octal}

-- the byte that a character stands for, and how many bytes it takes in the text; no character: width 0
pub record Char : Type 0 where
  pub byte : ℕ
  pub width : ℕ

abbrev pub got : ℕ → ℕ → Char
got b n = record { byte = b; width = n }

abbrev pub octal : ℕ → Bool
octal b = leb 48 b && leb b 55

-- `\` and the octal digit c, with d and e behind it: "three digits (first 0 to 2), else two, else one"
unfoldable pub octals : ℕ → ℕ → ℕ → Char
octals c d e =
    cond (octal d)
    (cond (leb c first_octal && octal e) (got ((c - 48) * 64 + (d - 48) * 8 + (e - 48)) 4) (got ((c - 48) * 8 + (d - 48)) 3))
    (got (c - 48) 2)

-- `\` and another byte: \n \r \t \' \" \[ \] \\
unfoldable pub letters : ℕ → Char
letters c =
    cond (eqb c 110) (got 10 2)
    (cond (eqb c 114) (got 13 2)
    (cond (eqb c 116) (got 9 2)
    (cond (eqb c 39) (got 39 2)
    (cond (eqb c 34) (got 34 2)
    (cond (eqb c 91) (got 91 2)
    (cond (eqb c 93) (got 93 2)
    (cond (eqb c 92) (got 92 2) (got 0 0))))))))

-- a character by the four bytes from its place on, 256 where the text has ended
unfoldable pub four : ℕ → ℕ → ℕ → ℕ → Char
four b c d e = cond (eqb b 256) (got 0 0) (cond (eqb b 92) (cond (octal c) (octals c d e) (letters c)) (got b 1))

unfoldable pub char : List ℕ → Char
char l = four (get_or l 0 256) (get_or l 1 256) (get_or l 2 256) (get_or l 3 256)

-- the bytes lo to hi
pub record Range : Type 0 where
  pub lo : ℕ
  pub hi : ℕ

abbrev pub range : ℕ → ℕ → Range
range a b = record { lo = a; hi = b }

-- what one turn of the loop reads; nothing: width 0
pub record Item : Type 0 where
  pub span : Range
  pub width : ℕ

abbrev pub item : ℕ → ℕ → ℕ → Item
item a b n = record { span = range a b; width = n }

-- an item of a literal: one character
unfoldable pub single : List ℕ → Item
single l = let c : Char = char l in item c.byte c.byte c.width

-- a to b, behind n bytes and the `-`; "a reversed range" is no item
abbrev pub ranged : ℕ → ℕ → ℕ → ℕ → Item
ranged a n b zero = item 0 0 0
ranged a n b (suc m) = cond (leb a b) (item a b (n + 1 + suc m)) (item 0 0 0)

-- "after a character and `-` the next character ends the range, even `]`": only a raw `-` does that
unfoldable pub dashed : ℕ → ℕ → List ℕ → Item
dashed a n [] = item a a n
dashed a n (b ∷ l) = elim (eqb b 45) [ true ↦ (let c : Char = char l in ranged a n c.byte c.width) | false ↦ item a a n ]

abbrev pub started : ℕ → ℕ → List ℕ → Item
started a zero l = item 0 0 0
started a (suc n) l = dashed a (suc n) (drop (suc n) l)

-- an item of a class: one character or a range
unfoldable pub listed : List ℕ → Item
listed l = let c : Char = char l in started c.byte c.width l

-- what stands up to the closing byte, and the place behind that byte; broken: an item that is none, or no closing byte
pub data Body : Type 0 where
  shut : List Range → ℕ → Body
  broken : Body

abbrev pub also : Range → Body → Body
also r (shut rs e) = shut (r ∷ rs) e
also r broken = broken

abbrev pub by_width : ℕ → Range → (ℕ → Body) → Body
by_width zero r k = broken
by_width (suc n) r k = also r (k n)

abbrev pub shut_by : Bool → ℕ → Item → (ℕ → Body) → Body
shut_by true at i k = shut [] (suc at)
shut_by false at i k = by_width i.width i.span k

-- the loop, over the bytes that are left; its first number counts the bytes of an item that are still to be passed
module _ (close : ℕ) (step : List ℕ → Item) where
  unfoldable pub body : ℕ → ℕ → List ℕ → Body
  body zero at [] = broken
  body (suc n) at [] = broken
  body zero at (b ∷ l) = shut_by (eqb b close) at (step (b ∷ l)) (λ n. body n (suc at) l)
  body (suc n) at (b ∷ l) = body n (suc at) l
