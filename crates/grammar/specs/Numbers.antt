-- Symbol numbers and terminal numbers, and the grammar by numbers (01, Notation: "Symbols are numbered from 0 ..").
-- Assumes nothing: these are definitions.
use Rattle.std.specs.Prelude.{ℕ, zero, suc, ◌+◌, Bool, true, false, List, [], ◌∷◌, ◌++◌, map, length, get_or, replicate}
use Rattle.std.proofs.Math.Option.{Option, none, some}
use Rattle.read_tokens.specs.Token.{Symbol, Leaf, name, lake, any}
use Rattle.grammar.specs.Exp.{Exp, Rule, size, rename, symbols_in, leaves_in}
use Rattle.grammar.specs.Same.{same_symbol, same_leaf, new_in, index_of}

abbrev pub is_lake : Symbol → Bool
is_lake (name w) = false
is_lake (lake w) = true

unfoldable pub left_sides : List Rule → List Symbol
left_sides [] = []
left_sides (r ∷ rs) = r.left ∷ left_sides rs

unfoldable pub uses_of : List Rule → List Symbol
uses_of [] = []
uses_of (r ∷ rs) = symbols_in r.right ++ uses_of rs

unfoldable pub only_lakes : List Symbol → List Symbol
only_lakes [] = []
only_lakes (h ∷ l) = elim (is_lake h) [ true ↦ h ∷ only_lakes l | false ↦ only_lakes l ]

-- the lakes without a rule, by first use
unfoldable pub loose_lakes : List Rule → List Symbol
loose_lakes rs = new_in same_symbol (left_sides rs) (only_lakes (uses_of rs))

-- "left sides in order, then lakes without a rule by first use"
unfoldable pub symbols_of : List Rule → List Symbol
symbols_of rs = left_sides rs ++ loose_lakes rs

unfoldable pub leaves_of : List Rule → List Leaf
leaves_of [] = []
leaves_of (r ∷ rs) = leaves_in r.right ++ leaves_of rs

-- "`.` is 0 always, then by first appearance"
unfoldable pub terminals_of : List Rule → List Leaf
terminals_of rs = any ∷ new_in same_leaf (any ∷ []) (leaves_of rs)

unfoldable pub expressions_of : List Rule → ℕ
expressions_of [] = 0
expressions_of (r ∷ rs) = size r.right + expressions_of rs

-- A grammar by numbers: symbol r is called `get_or names r`, and its right side, if it has a rule, is `get_or rights r`.
-- Terminals stay by content; a terminal's number is its place in `terminals`
pub record Grammar : Type 0 where
  pub names : List Symbol
  pub rights : List (Option (Exp ℕ))
  pub terminals : List Leaf

abbrev pub right_by : List Symbol → Rule → Option (Exp ℕ)
right_by names r = some (rename (λ h. index_of same_symbol h names) r.right)

unfoldable pub numbered : List Rule → Grammar
numbered rs =
    let names : List Symbol = symbols_of rs in
    record { names = names; rights = map (right_by names) rs ++ replicate (length (loose_lakes rs)) none; terminals = terminals_of rs }

-- the number of a terminal
abbrev pub terminal_in : Grammar → Leaf → ℕ
terminal_in g x = index_of same_leaf x g.terminals
