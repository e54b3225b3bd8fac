-- A terminal's record word by word, as it is compared and stored without a copy (02, par. 3). Assumes nothing: these are definitions.
-- That these words are the record's is proved in laws/Decoded.antt (`decoded-row`, and one law for each kind of terminal).
use Rattle.std.specs.Prelude.{ℕ, ◌-◌, ◌≤◌, ◌≡◌, List, ◌∷◌, ◌++◌, map, length, replicate}
use Rattle.read_tokens.specs.steps.Code.{literal_from}
use Rattle.read_entries.specs.declared.leaves.Leaf.{Leaf}
use Rattle.read_entries.specs.declared.leaves.Leaf.TheVariants.{Any, Literal, Class}
use Rattle.read_entries.specs.steps.Entries.{bit_of}

abbrev pub zeros : ℕ → List ℕ
zeros n = replicate n 0

-- n characters of a text from p on, decoded one after the other, and z zeros behind them
unfoldable pub spelled : ℕ → ℕ → List ℕ → ℕ → List ℕ
spelled n z s p = literal_from n s p ++ zeros z

-- a place in a text that may be a grammar, and so many characters as a record has room for
abbrev pub Inside : List ℕ → ℕ → ℕ → Type 0
Inside s from n = (from ≤ length s) × (length s ≤ 1048576) × (n ≤ 256)

-- a terminal of a text as the code has it: a literal is in a text that may be a grammar, and a class has a mark for each byte
abbrev pub Stands : Leaf → Type 0
Stands Any = Unit {0}
Stands (Literal text from n) = Inside text.now from n
Stands (Class marks) = length marks.now ≡ 256

-- its record (grammar_table, Table.antt): its kind; how many words it has; the characters of a literal and zeros behind them, the marks of a class, of `.`
-- zeros alone
abbrev pub kind_of : Leaf → ℕ
kind_of Any = 0
kind_of (Literal text from n) = 1
kind_of (Class marks) = 2

abbrev pub length_of : Leaf → ℕ
length_of Any = 0
length_of (Literal text from n) = n
length_of (Class marks) = 256

abbrev pub content_of : Leaf → List ℕ
content_of Any = zeros 256
content_of (Literal text from n) = spelled n (256 - n) text.now from
content_of (Class marks) = map bit_of marks.now

unfoldable pub words_of : Leaf → List ℕ
words_of l = kind_of l ∷ length_of l ∷ content_of l
