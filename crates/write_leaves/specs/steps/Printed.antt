-- The text of what a table holds: names and terminals read as bytes. Assumes nothing: these are definitions.
use Rattle.std.specs.Prelude.{ℕ, ◌+◌, ◌*◌, ◌-◌, ◌%◌, Bool, true, false, List, map, Option as Maybe, Some, None}
use Rattle.std.proofs.Math.Option.{Option, none, some}
use Rattle.read_tokens.specs.Token.{Symbol, Leaf, name, lake, any, literal, class}
use Rattle.grammar.specs.Exp.{Exp, sym, ter, seq, alt, opt, star, plus, ahead, never}
use Rattle.grammar.specs.Lakes.{plain_name}
use Rattle.grammar_table.specs.Table.{symbols_at, symbol_words, symbol_word, symbol_by, words_from, marks_from}
use Rattle.write_rules.specs.Writing.{runs, runs_text}
use Rattle.read_tokens.specs.Chars.{Range, range}

-- words as bytes; in a table that holds a grammar they are
abbrev pub low : ℕ → ℕ
low w = w % 256

-- the name of symbol r, in plain as `lake__x`
abbrev pub called_by : Bool → Symbol → Symbol
called_by true h = plain_name h
called_by false h = h

unfoldable pub called : Bool → List ℕ → ℕ → Symbol
called plain t r = called_by plain (symbol_by (symbol_word t r 0) (map low (words_from t (symbols_at + symbol_words * r + 4) (symbol_word t r 3))))

-- a terminal's content as bytes
abbrev pub low_leaf : Leaf → Leaf
low_leaf any = any
low_leaf (literal l) = literal (map low l)
low_leaf (class m) = class m

-- an expression with names for its symbols
unfoldable pub toned : (ℕ → Symbol) → Exp ℕ → Exp Symbol
toned f (sym r) = sym (f r)
toned f (ter x) = ter (low_leaf x)
toned f (seq a b) = seq (toned f a) (toned f b)
toned f (alt a b) = alt (toned f a) (toned f b)
toned f (opt a) = opt (toned f a)
toned f (star a) = star (toned f a)
toned f (plus a) = plus (toned f a)
toned f (ahead a) = ahead (toned f a)
toned f (never a) = never (toned f a)

-- the open run of a class before mark b, by the byte at which it began
abbrev pub open_of : Maybe ℕ → ℕ → Option Range
open_of None b = none
open_of (Some lo) b = some (range lo (b - 1))

-- what is left of a class before mark b, with a run open
abbrev pub rest_of : List ℕ → ℕ → Maybe ℕ → ℕ → List ℕ
rest_of t i run b = runs_text (runs (open_of run b) b (marks_from t (i + b) (256 - b)))
