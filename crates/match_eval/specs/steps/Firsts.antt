-- What an expression takes where a byte stands, if the byte alone decides it: it need not be evaluated there. Two bits of the memory say it of each expression
-- and byte, and a place's cells are set to what is said of the symbols' bodies before its other cells are filled. Assumes nothing: these are definitions.
use Rattle.std.specs.Prelude.{ℕ, zero, suc, ◌+◌, ◌*◌, ◌/◌, ◌%◌, ◌≤◌, ◌<◌, ◌≡◌, cond, ◌&&◌, List, ◌⊎◌, ltb, get_or, set}
use Rattle.read_tokens.specs.Token.{Leaf}
use Rattle.grammar.specs.Exp.{Exp}
use Rattle.base_words.specs.Set.{bit}
use Rattle.grammar_table.specs.Table.{symbol_word}
use Rattle.match_eval.specs.Eval.{leaf_at, ev}

-- the byte at a place; 256 at the text's end
abbrev pub byte_at : List ℕ → ℕ → ℕ
byte_at s p = get_or s p 256

-- `.` and 1,024 expressions
abbrev pub parts : ℕ
parts = 1025

-- where the bits begin: 16 words for each part, a word for 16 bytes
abbrev pub said_at : ℕ
said_at = 2309

-- the word of part x and byte b, and the lower of its two bits there
abbrev pub said_word : ℕ → ℕ → ℕ
said_word b x = said_at + 16 * x + b / 16

abbrev pub said_bit : ℕ → ℕ
said_bit b = 2 * (b % 16)

-- the two bits of part x and byte b, as one number
abbrev pub bits_of : List ℕ → ℕ → ℕ → ℕ
bits_of mem b x = bit (get_or mem (said_word b x) 0) (said_bit b) + 2 * bit (get_or mem (said_word b x) 0) (said_bit b + 1)

-- what is said of part x where byte b stands: 0 nothing, else 1 + what it takes there; of the text's end nothing is said
unfoldable pub said_of : List ℕ → ℕ → ℕ → ℕ
said_of mem b x = cond (ltb b 256 && ltb x parts) (bits_of mem b x) 0

-- the same of the body of symbol r
abbrev pub word_of : List ℕ → List ℕ → ℕ → ℕ → ℕ
word_of t mem b r = said_of mem b (symbol_word t r 1)

-- the cells of n symbols at p are what is said of their bodies by the byte there
abbrev pub Heard : List ℕ → List ℕ → List ℕ → List ℕ → ℕ → ℕ → Type 0
Heard t mem s cs n p = (r v : ℕ) → r < n → word_of t mem (byte_at s p) r ≡ suc v → get_or cs (p * n + r) 0 ≡ v

-- a terminal that takes v wherever byte b stands
abbrev pub LeafSure : ℕ → Leaf → ℕ → Type 0
LeafSure b x v = (s : List ℕ) (p : ℕ) → byte_at s p ≡ b → leaf_at s x p ≡ v

-- an expression that does, in cells that are what is said
abbrev pub Sure : List ℕ → List ℕ → ℕ → ℕ → Exp ℕ → ℕ → Type 0
Sure t mem n b e v = (s cs : List ℕ) (p : ℕ) → byte_at s p ≡ b → Heard t mem s cs n p → ev s cs n e p ≡ v

-- an expression that takes nothing wherever it matches
abbrev pub Guards : Exp ℕ → Type 0
Guards e = (s cs : List ℕ) (n p : ℕ) → ev s cs n e p ≤ 1

-- what was said before is still said, and of part x and byte b it is said at most that it takes v
pub record Added (b x v : ℕ) (old new : List ℕ) : Type 0 where
  pub kept : (c y w : ℕ) → said_of old c y ≡ suc w → said_of new c y ≡ suc w
  pub only : (c y w : ℕ) → said_of new c y ≡ suc w → (said_of old c y ≡ suc w) ⊎ ((c ≡ b) × (y ≡ x) × (w ≡ v))

-- the cells from i on of the symbols below a number, set to what is said where byte b stands
unfoldable pub put_said : ℕ → ℕ → List ℕ → List ℕ
put_said zero i cs = cs
put_said (suc v) i cs = set cs i v

unfoldable pub preset_of : List ℕ → List ℕ → ℕ → ℕ → ℕ → List ℕ → List ℕ
preset_of t mem b i zero cs = cs
preset_of t mem b i (suc r) cs = preset_of t mem b i r (put_said (word_of t mem b r) (i + r) cs)

-- nothing is said
abbrev pub Silent : List ℕ → Type 0
Silent mem = (b x : ℕ) → said_of mem b x ≡ 0
