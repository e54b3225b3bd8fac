-- The fields of a line: words apart by one space, bytes in hexadecimal, decimal numbers. Assumes nothing: these are definitions.
use Rattle.std.specs.Prelude.{ℕ, suc, ◌+◌, ◌-◌, ◌*◌, ◌/◌, ◌%◌, Bool, true, false, cond, ◌&&◌, ◌||◌, List, [], ◌∷◌, length, get_or, take, drop, eqb, leb}
use Rattle.std.specs.Prelude.{ltb, Option, Some, None}
use Rattle.std.specs.List.{list_all}

-- the bytes from one place up to another
abbrev pub field : List ℕ → ℕ → ℕ → List ℕ
field s from to = take (to - from) (drop from s)

-- how many bytes stand before the next space
unfoldable pub to_space : List ℕ → ℕ
to_space [] = 0
to_space (b ∷ l) = cond (eqb b 32) 0 (suc (to_space l))

-- where the field that begins at a place ends
abbrev pub until_of : List ℕ → ℕ → ℕ
until_of s at = at + to_space (drop at s)

-- where the next one begins
abbrev pub after_of : List ℕ → ℕ → ℕ
after_of s at = cond (ltb (until_of s at) (length s)) (until_of s at + 1) (length s)

-- whether the word stands at the begin
unfoldable pub begins : List ℕ → List ℕ → Bool
begins [] l = true
begins (b ∷ w) [] = false
begins (b ∷ w) (c ∷ l) = eqb c b && begins w l

-- no field has a number as large
abbrev pub beyond : ℕ
beyond = 4294967296

-- one digit more; none where it is none, or the number as large
unfoldable pub shifted_by : ℕ → ℕ → Option ℕ
shifted_by v b =
    let w : ℕ = v * 10 + (b - 48) in
    cond (ltb b 48) None (cond (ltb 57 b) None (cond (leb beyond w) None (Some w)))

unfoldable pub number_from : Option ℕ → List ℕ → Option ℕ
number_from None l = None
number_from (Some v) [] = Some v
number_from (Some v) (b ∷ l) = number_from (shifted_by v b) l

-- the decimal number of a field that is there
abbrev pub decimal_of : List ℕ → ℕ → ℕ → Option ℕ
decimal_of s from to = cond (ltb (length s) to) None (cond (leb to from) None (number_from (Some 0) (field s from to)))

-- a number that is at most so large
abbrev pub at_most : ℕ → Option ℕ → Option ℕ
at_most most None = None
at_most most (Some n) = cond (leb n most) (Some n) None

-- the number of the field that begins at a place, where it is at most so large
abbrev pub number_of : List ℕ → ℕ → ℕ → Option ℕ
number_of s at most = at_most most (decimal_of s at (until_of s at))

-- the digits of hexadecimal: 0 to 9, a to f
abbrev pub is_digit : ℕ → Bool
is_digit b = (leb 48 b && leb b 57) || (leb 97 b && leb b 102)

abbrev pub all_digits : List ℕ → Bool
all_digits = list_all is_digit

-- bytes in hexadecimal, at most so many, or `-` for none
abbrev pub bytes_of : List ℕ → ℕ → ℕ → ℕ → Bool
bytes_of s from to most =
    cond (ltb (length s) to) false
    (cond (leb to from) false
    (cond (eqb (to - from) 1) (eqb (get_or s from 0) 45)
    (eqb ((to - from) % 2) 0 && (leb ((to - from) / 2) most && all_digits (field s from to)))))
