-- The tree of an expression of a table as evaluation goes down it: 0 stands for `.`, suc e for expression e. Assumes nothing: these are definitions.
use Rattle.std.specs.Prelude.{ℕ, zero, suc, cond, List, ltb}
use Rattle.read_tokens.specs.Token.{any}
use Rattle.grammar.specs.Exp.{Exp, ter}
use Rattle.grammar_table.specs.Table.{tree_at, symbol_word, symbol_count, up_to}

abbrev pub tree_of : List ℕ → ℕ → Exp ℕ
tree_of t zero = ter any
tree_of t (suc e) = tree_at t e

-- a part of expression e; one that does not come before it stands for `.`
abbrev pub below : ℕ → ℕ → ℕ
below i e = cond (ltb i e) (suc i) 0

-- the bodies of a table's symbols, by number
unfoldable pub bodies_of : List ℕ → List (Exp ℕ)
bodies_of t = up_to (λ r. tree_of t (symbol_word t r 1)) (symbol_count t)
