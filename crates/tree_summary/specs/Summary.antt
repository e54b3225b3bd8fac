-- "a lent run of records, one for each symbol, with its number of nodes, the bytes its outermost nodes cover, and the numbers of its first and last node ..
-- Symbols without a node have a record of zeros, marked absent" (02, par. 2), worked out afresh. Assumes nothing: these are definitions.
use Rattle.std.specs.Prelude.{ℕ, zero, suc, Bool, true, false, cond, ◌&&◌, ◌||◌, List, [], ◌∷◌, ◌++◌, eqb, leb, ltb, drop}
use Rattle.grammar_table.specs.Table.{up_to}
use Rattle.match_meaning.specs.Meaning.{Node}
use Rattle.tree_summary.specs.declared.Summary.{Summary}

-- a node of symbol r
abbrev pub is_of : ℕ → Node → Bool
is_of r x = eqb x.symbol r

-- there is one
abbrev pub any_of : ℕ → Bool
any_of zero = false
any_of (suc k) = true

-- "its number of nodes"
unfoldable pub count_of : ℕ → List Node → ℕ
count_of r [] = 0
count_of r (x ∷ xs) = cond (is_of r x) (suc (count_of r xs)) (count_of r xs)

-- byte p lies in one of them; what lies in a node lies in the outermost of its symbol around it
unfoldable pub lies_in : ℕ → List Node → ℕ → Bool
lies_in r [] p = false
lies_in r (x ∷ xs) p = (is_of r x && (leb x.start p && ltb p x.end)) || lies_in r xs p

-- how many of the first n bytes do: "the bytes its outermost nodes cover"
unfoldable pub covered_of : ℕ → ℕ → List Node → ℕ
covered_of zero r xs = 0
covered_of (suc n) r xs = cond (lies_in r xs n) (suc (covered_of n r xs)) (covered_of n r xs)

-- "the numbers of its first and last node", the list's first being node k; 0 if there is none
unfoldable pub first_of : ℕ → ℕ → List Node → ℕ
first_of r k [] = 0
first_of r k (x ∷ xs) = cond (is_of r x) k (first_of r (suc k) xs)

unfoldable pub last_of : ℕ → ℕ → List Node → ℕ
last_of r k [] = 0
last_of r k (x ∷ xs) = cond (any_of (count_of r xs)) (last_of r (suc k) xs) (cond (is_of r x) k 0)

-- the record of symbol r for these nodes of an input of n bytes
unfoldable pub summary_of : ℕ → List Node → ℕ → Summary
summary_of n xs r =
    record { nodes = count_of r xs; bytes = covered_of n r xs; first = first_of r 0 xs; last = last_of r 0 xs; present = any_of (count_of r xs) }

-- "a record of zeros, marked absent"
abbrev pub absent : Summary
absent = record { nodes = 0; bytes = 0; first = 0; last = 0; present = false }

-- of R symbols, the records behind them as they were
unfoldable pub summaries : ℕ → ℕ → List Node → List Summary → List Summary
summaries n R xs old = up_to (summary_of n xs) R ++ drop R old
