-- The token at a place of a grammar text, in either mode, and the text's tokens (01, Notation).
-- Assumes nothing: these are definitions.
use Rattle.std.specs.Prelude.{ℕ, zero, suc, ◌+◌, Bool, true, false, cond, not, ◌&&◌, ◌||◌, List, [], ◌∷◌, map, eqb, leb, drop, length}
use Rattle.std.proofs.Math.Option.{Option, none, some}
use Rattle.read_tokens.specs.Kinds.{kind_at}
use Rattle.read_tokens.specs.declared.Mode.{Mode}
use Rattle.read_tokens.specs.declared.Mode.TheVariants.{Lake, Plain}
use Rattle.read_tokens.specs.Token.{Prefix, Suffix, Tok, Token, Lexeme, name, lake, any, literal, class, amp, bang, query}
use Rattle.read_tokens.specs.Token.{asterisk, cross, symbol, leaf, pre, suf, arrow, slash, opens, closes, bad}
use Rattle.read_tokens.specs.Chars.{Range, Body, shut, broken, single, listed, body}

abbrev pub tok : Tok → ℕ → ℕ → Token
tok t i n = record { is = some t; start = i; next = n }

-- a bad token is placed at its first byte; how long it is nobody asks
abbrev pub bad_at : ℕ → Token
bad_at i = tok bad i (suc i)

-- ── blanks: space, tab, CR, LF, "and `#` up to the next CR or LF or the text's end" ──
-- 0: a blank; 1: in a comment from here on; 2: a token begins
abbrev pub blank_by : Bool → ℕ → ℕ
blank_by true b = cond (eqb b 10 || eqb b 13) 0 1
blank_by false b = cond (eqb (kind_at b) 1) 0 (cond (eqb (kind_at b) 4) 1 2)

-- the first place from `at` on that is no blank; the Bool says whether a comment is open
unfoldable pub skip : Bool → ℕ → List ℕ → ℕ
skip inside at [] = at
skip inside at (b ∷ l) = elim (eqb (blank_by inside b) 2) [ true ↦ at | false ↦ skip (eqb (blank_by inside b) 1) (suc at) l ]

-- ── names `[a-zA-Z_][a-zA-Z_0-9]*` and lakes ──
abbrev pub name_byte : ℕ → Bool
name_byte b = eqb (kind_at b) 2 || eqb (kind_at b) 3

unfoldable pub name_span : List ℕ → List ℕ
name_span [] = []
name_span (b ∷ l) = elim (name_byte b) [ true ↦ b ∷ name_span l | false ↦ [] ]

-- behind `<` and the name w: "a lake is `<name>` without blanks inside"
abbrev pub lake_by : ℕ → List ℕ → List ℕ → Token
lake_by i w [] = bad_at i
lake_by i w (b ∷ l) = cond (eqb b 62) (tok (symbol (lake w)) i (i + length w + 2)) (bad_at i)

-- `<` and what follows it: "`<` followed by `-` is the arrow"; in plain mode there are no lakes
unfoldable pub angle : Mode → ℕ → List ℕ → Token
angle m i [] = bad_at i
angle Plain i (b ∷ l) = cond (eqb b 45) (tok arrow i (i + 2)) (bad_at i)
angle Lake i (b ∷ l) =
    elim (eqb b 45) [
      | true ↦ tok arrow i (i + 2)
      | false ↦ elim (eqb (kind_at b) 2) [ true ↦ (let w : List ℕ = name_span (b ∷ l) in lake_by i w (drop (length w) (b ∷ l))) | false ↦ bad_at i ]
    ]

-- ── literals: "an empty literal" is a bad token ──
abbrev pub low_of : Range → ℕ
low_of r = r.lo

unfoldable pub literal_by : ℕ → Body → Token
literal_by i broken = bad_at i
literal_by i (shut [] e) = bad_at i
literal_by i (shut (r ∷ rs) e) = tok (leaf (literal (map low_of (r ∷ rs)))) i e

-- ── classes: "read into 256 yes-or-no marks"; "a class with nothing listed and a class without bytes are bad tokens" ──
abbrev pub within : ℕ → Range → Bool
within b r = leb r.lo b && leb b r.hi

unfoldable pub among : ℕ → List Range → Bool
among b [] = false
among b (r ∷ rs) = within b r || among b rs

-- f at i, i + 1, .., n of them
unfoldable pub table : (ℕ → Bool) → ℕ → ℕ → List Bool
table f i zero = []
table f i (suc n) = f i ∷ table f (suc i) n

unfoldable pub some_true : List Bool → Bool
some_true [] = false
some_true (x ∷ l) = x || some_true l

-- the complement, or as it is
abbrev pub turned : Bool → Bool → Bool
turned true b = not b
turned false b = b

unfoldable pub class_marks : Bool → List Range → List Bool
class_marks c rs = table (λ b. turned c (among b rs)) 0 256

abbrev pub class_token : Bool → List Bool → ℕ → ℕ → Token
class_token true l i e = tok (leaf (class l)) i e
class_token false l i e = bad_at i

unfoldable pub class_by : Bool → ℕ → Body → Token
class_by c i broken = bad_at i
class_by c i (shut [] e) = bad_at i
class_by c i (shut (r ∷ rs) e) = let l : List Bool = class_marks c (r ∷ rs) in class_token (some_true l) l i e

-- behind the `[`; in lake mode "a class that begins with `^` is the complement"
unfoldable pub bracket : Mode → ℕ → List ℕ → Token
bracket m i [] = bad_at i
bracket Plain i (b ∷ l) = class_by false i (body 93 listed 0 (suc i) (b ∷ l))
bracket Lake i (b ∷ l) =
    elim (eqb b 94) [
      | true ↦ class_by true i (body 93 listed 0 (suc (suc i)) l)
      | false ↦ class_by false i (body 93 listed 0 (suc i) (b ∷ l))
    ]

-- ── the token ──
abbrev pub pre_of : ℕ → Prefix
pre_of b = cond (eqb b 38) amp bang

abbrev pub suf_of : ℕ → Suffix
suf_of b = cond (eqb b 63) query (cond (eqb b 42) asterisk cross)

-- the token that starts at i with the byte b, of kind k, with l behind it
unfoldable pub by_kind : ℕ → Mode → ℕ → ℕ → List ℕ → Token
by_kind k m b i l =
    elim (eqb k 2) [
      | true ↦ (let w : List ℕ = name_span (b ∷ l) in tok (symbol (name w)) i (i + length w))
      | false ↦
          elim (eqb k 5) [
            | true ↦ tok opens i (suc i)
            | false ↦
                elim (eqb k 6) [
                  | true ↦ tok closes i (suc i)
                  | false ↦
                      elim (eqb k 7) [
                        | true ↦ tok slash i (suc i)
                        | false ↦
                            elim (eqb k 8) [
                              | true ↦ tok (pre (pre_of b)) i (suc i)
                              | false ↦
                                  elim (eqb k 9) [
                                    | true ↦ tok (suf (suf_of b)) i (suc i)
                                    | false ↦
                                        elim (eqb k 10) [
                                          | true ↦ tok (leaf any) i (suc i)
                                          | false ↦
                                              elim (eqb k 11) [
                                                | true ↦ literal_by i (body b single 0 (suc i) l)
                                                | false ↦
                                                    elim (eqb k 12) [
                                                      | true ↦ bracket m i l
                                                      | false ↦
                                                          elim (eqb k 13) [ true ↦ angle m i l | false ↦ bad_at i ]
                                                    ]
                                              ]
                                        ]
                                  ]
                            ]
                      ]
                ]
          ]
    ]

unfoldable pub token_from : Mode → ℕ → List ℕ → Token
token_from m i [] = record { is = none; start = i; next = i }
token_from m i (b ∷ l) = by_kind (kind_at b) m b i l

-- the token at a place or, where blanks stand there, behind them
unfoldable pub token_at : Mode → List ℕ → ℕ → Token
token_at m s at = let i : ℕ = skip false at (drop at s) in token_from m i (drop i s)

abbrev pub lexeme : Tok → ℕ → Lexeme
lexeme t i = record { is = t; start = i }

abbrev pub by_end : Option Tok → ℕ → ℕ → (ℕ → List Lexeme) → List Lexeme
by_end none i n k = []
by_end (some t) i n k = lexeme t i ∷ k n

-- the tokens from a place on, at most f of them: a token takes a byte at least, so that the text's length is enough
unfoldable pub lexemes_from : ℕ → Mode → List ℕ → ℕ → List Lexeme
lexemes_from zero m s at = []
lexemes_from (suc f) m s at = let t : Token = token_at m s at in by_end t.is t.start t.next (λ n. lexemes_from f m s n)

unfoldable pub lexemes : Mode → List ℕ → List Lexeme
lexemes m s = lexemes_from (length s) m s 0

-- their tokens alone
unfoldable pub toks_of : List Lexeme → List Tok
toks_of [] = []
toks_of (x ∷ l) = x.is ∷ toks_of l

unfoldable pub toks : Mode → List ℕ → List Tok
toks m s = toks_of (lexemes m s)
