-- Sets as two words (01, Lakes made plain: "a set is two 64-bit words handed over whole"). Word 0 holds the symbols, word 1 the terminals,
-- bit = number; as one number k below 128, symbol r is r and terminal t is 64 + t. Assumes nothing: these are definitions.
use Rattle.std.specs.Prelude.{List, [], ◌∷◌, Bool, ℕ, zero, suc, ◌+◌, ◌/◌, ◌%◌, ◌^◌, get_or, set, eqb}
use Rattle.std.specs.Int.Bits.{bit_or}

-- the bit k of a word, 0 or 1
abbrev pub bit : ℕ → ℕ → ℕ
bit x k = x / 2 ^ k % 2

abbrev pub union_of : List ℕ → List ℕ → List ℕ
union_of a b = bit_or (get_or a 0 0) (get_or b 0 0) ∷ bit_or (get_or a 1 0) (get_or b 1 0) ∷ []

abbrev pub member_of : List ℕ → ℕ → Bool
member_of s k = eqb (bit (get_or s (k / 64) 0) (k % 64)) 1

abbrev pub with_of : List ℕ → ℕ → List ℕ
with_of s k = set s (k / 64) (bit_or (get_or s (k / 64) 0) (2 ^ (k % 64)))

abbrev pub empty : List ℕ
empty = 0 ∷ 0 ∷ []

-- one symbol, one terminal
abbrev pub symbol_set : ℕ → List ℕ
symbol_set r = 2 ^ r ∷ 0 ∷ []

abbrev pub terminal_set : ℕ → List ℕ
terminal_set t = 0 ∷ 2 ^ t ∷ []

-- how many of the w low bits of a word are set
abbrev pub ones : ℕ → ℕ → ℕ
ones zero x = 0
ones (suc w) x = x % 2 + ones w (x / 2)
