-- Which bytes spell which blank, character, class item and token (01, Notation): what the functions of `Chars` and `Tokens`, which are shaped like the
-- code, are held to (laws/Spelled). No such function is called here. `l` is always the text from a place on, `r` the text behind what is spelled.
-- Assumes nothing: these are definitions.
use Rattle.std.specs.Prelude.{ℕ, suc, ◌+◌, ◌*◌, ◌≤◌, ◌<◌, ◌≡◌, Bool, true, false, ◌⊎◌, ◌↔◌, List, [], ◌∷◌, length, drop, get_or}
use Rattle.std.proofs.Math.Option.{Option, none, some}
use Rattle.read_tokens.specs.declared.Mode.{Mode}
use Rattle.read_tokens.specs.declared.Mode.TheVariants.{Lake, Plain}
use Rattle.read_tokens.specs.Token.{Tok, Token, Lexeme, name, lake, any, literal, class, amp, bang, query, asterisk, cross, symbol, leaf, pre}
use Rattle.read_tokens.specs.Token.{suf, arrow, slash, opens, closes, bad}
use Rattle.read_tokens.specs.Chars.{Range, range}

-- ── bytes ──
abbrev pub OneOf : List ℕ → ℕ → Type 0
OneOf [] b = ⊥
OneOf (c ∷ cs) b = (b ≡ c) ⊎ OneOf cs b

abbrev pub Between : ℕ → ℕ → ℕ → Type 0
Between lo hi b = (lo ≤ b) × (b ≤ hi)

-- what the text begins with
abbrev pub HeadIs : (ℕ → Type 0) → List ℕ → Type 0
HeadIs P [] = ⊥
HeadIs P (b ∷ l) = P b

-- "Blanks are space, tab, CR, LF"
abbrev pub blank_bytes : List ℕ
blank_bytes = 32 ∷ 9 ∷ 13 ∷ 10 ∷ []

abbrev pub line_ends : List ℕ
line_ends = 13 ∷ 10 ∷ []

-- "a literal in `'` or `"`"
abbrev pub quotes : List ℕ
quotes = 39 ∷ 34 ∷ []

-- behind `\`, the bytes that stand for themselves: "`\' \" \[ \] \\`"
abbrev pub escapes : List ℕ
escapes = 39 ∷ 34 ∷ 91 ∷ 93 ∷ 92 ∷ []

-- "Names are `[a-zA-Z_][a-zA-Z_0-9]*`"
abbrev pub Letter : ℕ → Type 0
Letter b = Between 97 122 b ⊎ Between 65 90 b ⊎ (b ≡ 95)

abbrev pub NameByte : ℕ → Type 0
NameByte b = Letter b ⊎ Between 48 57 b

-- c is the octal digit x
abbrev pub Digit : ℕ → ℕ → Type 0
Digit x c = (c ≡ 48 + x) × (x ≤ 7)

abbrev pub Octal : ℕ → Type 0
Octal c = (x : ℕ) × Digit x c

-- ── runs and blanks ──
-- w, bytes that P holds of, as many as stand there
pub data Run (P : ℕ → Type 0) : List ℕ → List ℕ → List ℕ → Type 0 where
  stop : {r : List ℕ} → ¬ HeadIs P r → Run P [] r r
  go : {b : ℕ} {w l r : List ℕ} → P b → Run P w l r → Run P (b ∷ w) (b ∷ l) r

-- blanks, "and `#` up to the next CR or LF or the text's end"
pub data Blanks : List ℕ → List ℕ → Type 0 where
  none_more : {r : List ℕ} → Blanks r r
  blank : {b : ℕ} {l r : List ℕ} → OneOf blank_bytes b → Blanks l r → Blanks (b ∷ l) r
  comment : {w l k r : List ℕ} → Run (λ (b : ℕ). ¬ OneOf line_ends b) w l k → Blanks k r → Blanks (35 ∷ l) r

-- all blanks that stand there
abbrev pub Skips : List ℕ → List ℕ → Type 0
Skips l r = Blanks l r × ¬ HeadIs (λ (b : ℕ). OneOf blank_bytes b ⊎ (b ≡ 35)) r

-- ── characters ──
-- behind `\`: "`\n \r \t`" and those that stand for themselves
pub data Escape : ℕ → ℕ → Type 0 where
  n-lf : Escape 110 10
  r-cr : Escape 114 13
  t-tab : Escape 116 9
  same : {c : ℕ} → OneOf escapes c → Escape c c

-- a character that stands for the byte b
pub data Spells : ℕ → List ℕ → List ℕ → Type 0 where
  itself : {b : ℕ} {r : List ℕ} → ¬ (b ≡ 92) → Spells b (b ∷ r) r
  escaped : {c b : ℕ} {r : List ℕ} → Escape c b → Spells b (92 ∷ c ∷ r) r
  -- "octal `\` with three digits (first 0 to 2), else two, else one"
  three : {x y z c d e : ℕ} {r : List ℕ} → x ≤ 2 → Digit x c → Digit y d → Digit z e → Spells (x * 64 + y * 8 + z) (92 ∷ c ∷ d ∷ e ∷ r) r
  two : {x y c d : ℕ} {r : List ℕ} → Digit x c → Digit y d → (x ≤ 2 → ¬ HeadIs Octal r) → Spells (x * 8 + y) (92 ∷ c ∷ d ∷ r) r
  one : {x c : ℕ} {r : List ℕ} → Digit x c → ¬ HeadIs Octal r → Spells x (92 ∷ c ∷ r) r

-- an item of a class: "after a character and `-` the next character ends the range, even `]`"; "a reversed range" is none
pub data ItemSpelt : Range → List ℕ → List ℕ → Type 0 where
  alone : {a : ℕ} {l r : List ℕ} → Spells a l r → ¬ HeadIs (λ (b : ℕ). b ≡ 45) r → ItemSpelt (range a a) l r
  ranged : {a b : ℕ} {l k r : List ℕ} → Spells a l (45 ∷ k) → Spells b k r → a ≤ b → ItemSpelt (range a b) l r

-- xs, one after the other up to the closing byte, and that byte
pub data UpTo (close : ℕ) {A : Type 0} (One : A → List ℕ → List ℕ → Type 0) : List A → List ℕ → List ℕ → Type 0 where
  closed : {r : List ℕ} → UpTo close One [] (close ∷ r) r
  more : {x : A} {xs : List A} {l k r : List ℕ} → ¬ HeadIs (λ (b : ℕ). b ≡ close) l → One x l k → UpTo close One xs k r → UpTo close One (x ∷ xs) l r

-- ── tokens ──
-- a byte that one of a class's items has (01, Notation: single characters and ranges)
abbrev pub InItems : List Range → ℕ → Type 0
InItems [] b = ⊥
InItems (x ∷ xs) b = Between x.lo x.hi b ⊎ InItems xs b

-- "256 yes-or-no marks", and "a class without bytes" is a bad token
pub record Marks (In : ℕ → Type 0) (k : List Bool) : Type 0 where
  pub all : length k ≡ 256
  pub exact : (b : ℕ) → b < 256 → (get_or k b false ≡ true) ↔ In b
  pub some_byte : (b : ℕ) × (b < 256) × In b

-- in lake mode, "a class that begins with `^`"
abbrev pub Caret : Mode → List ℕ → Type 0
Caret Lake l = HeadIs (λ (b : ℕ). b ≡ 94) l
Caret Plain l = ⊥

-- the tokens of one byte
pub data Sign : ℕ → Tok → Type 0 where
  is-opens : Sign 40 opens
  is-closes : Sign 41 closes
  is-slash : Sign 47 slash
  is-amp : Sign 38 (pre amp)
  is-bang : Sign 33 (pre bang)
  is-query : Sign 63 (suf query)
  is-asterisk : Sign 42 (suf asterisk)
  is-cross : Sign 43 (suf cross)
  is_any : Sign 46 (leaf any)

-- a token other than a bad one; an empty literal and a class with nothing listed are none, nor is one that does not end
pub data Reads : Mode → Tok → List ℕ → List ℕ → Type 0 where
  a-sign : {m : Mode} {b : ℕ} {t : Tok} {r : List ℕ} → Sign b t → Reads m t (b ∷ r) r
  -- "`<` followed by `-` is the arrow"
  an-arrow : {m : Mode} {r : List ℕ} → Reads m arrow (60 ∷ 45 ∷ r) r
  a-name : {m : Mode} {b : ℕ} {w l r : List ℕ} → Letter b → Run NameByte w l r → Reads m (symbol (name (b ∷ w))) (b ∷ l) r
  -- "a lake is `<name>` without blanks inside"; plain mode: "no lakes"
  a-lake : {b : ℕ} {w l r : List ℕ} → Letter b → Run NameByte w l (62 ∷ r) → Reads Lake (symbol (lake (b ∷ w))) (60 ∷ b ∷ l) r
  a-literal : {m : Mode} {q b : ℕ} {bs l r : List ℕ} → OneOf quotes q → UpTo q Spells (b ∷ bs) l r → Reads m (leaf (literal (b ∷ bs))) (q ∷ l) r
  a-class : {m : Mode} {x : Range} {xs : List Range} {k : List Bool} {l r : List ℕ} → ¬ Caret m l → UpTo 93 ItemSpelt (x ∷ xs) l r → Marks (InItems (x ∷ xs)) k
      → Reads m (leaf (class k)) (91 ∷ l) r
  -- "the complement"
  a-complement : {x : Range} {xs : List Range} {k : List Bool} {l r : List ℕ} → UpTo 93 ItemSpelt (x ∷ xs) l r → Marks (λ (b : ℕ). ¬ InItems (x ∷ xs) b) k
      → Reads Lake (leaf (class k)) (91 ∷ 94 ∷ l) r

abbrev pub token_is : Option Tok → ℕ → ℕ → Token
token_is t i n = record { is = t; start = i; next = n }

-- the token at a place of the text s or, where blanks stand there, behind them
pub data SpelledAt (m : Mode) (s : List ℕ) (at : ℕ) : Token → Type 0 where
  text-end : Skips (drop at s) [] → SpelledAt m s at (token_is none (length s) (length s))
  good : {t : Tok} {i n : ℕ} → i ≤ length s → n ≤ length s → Skips (drop at s) (drop i s) → Reads m t (drop i s) (drop n s)
      → SpelledAt m s at (token_is (some t) i n)
  -- bad is what begins no token; it is taken to be one byte long
  no-token : {i : ℕ} → i < length s → Skips (drop at s) (drop i s) → ((t : Tok) (r : List ℕ) → ¬ Reads m t (drop i s) r)
      → SpelledAt m s at (token_is (some bad) i (suc i))

-- the tokens from a place on
pub data Spelled (m : Mode) (s : List ℕ) : ℕ → List Lexeme → Type 0 where
  ended : {at i n : ℕ} → SpelledAt m s at (token_is none i n) → Spelled m s at []
  follows : {at i n : ℕ} {t : Tok} {ts : List Lexeme} → SpelledAt m s at (token_is (some t) i n) → Spelled m s n ts
      → Spelled m s at (record { is = t; start = i } ∷ ts)
