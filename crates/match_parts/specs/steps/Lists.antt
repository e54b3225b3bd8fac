-- The parts of a sequence, or the alternatives of a choice, in a list: they are evaluated one after the other, without going down the expression again (01,
-- Meaning of a match). A list at i is its kind, 3 for a choice, the number of parts, and the parts, the last first. Assumes nothing: these are definitions.
use Rattle.std.specs.Prelude.{ℕ, zero, suc, ◌+◌, ◌≤◌, ◌<◌, ◌≡◌, Bool, true, false, List, eqb, get_or}
use Rattle.grammar_table.specs.Table.{symbol_word}
use Rattle.grammar_table.specs.Trees.{tree_of}
use Rattle.match_eval.specs.Eval.{seq_of, alt_of, ev}
use Rattle.match_eval.specs.steps.Memory.{count_at, parts_at}

-- whether the list at i is of alternatives
abbrev pub choice_at : List ℕ → ℕ → Bool
choice_at lists i = eqb (get_or lists i 0) 3

-- what an alternative does with what those before it take, and what a part of a sequence does
unfoldable pub join_by : Bool → ℕ → (ℕ → ℕ) → ℕ
join_by true a k = alt_of a k
join_by false a k = seq_of a k

-- what has been taken before the next part is tried: of alternatives none has matched, of a sequence so many bytes
unfoldable pub taken_by : Bool → ℕ → ℕ
taken_by true d = 0
taken_by false d = suc d

-- what the first k parts listed from i on take at p behind a: the last of them comes first
unfoldable pub run_of : Bool → List ℕ → List ℕ → List ℕ → ℕ → List ℕ → ℕ → ℕ → ℕ → ℕ → ℕ
run_of c t s cs n lists i p zero a = a
run_of c t s cs n lists i p (suc k) a = run_of c t s cs n lists i p k (join_by c a (λ m. ev s cs n (tree_of t (get_or lists (i + k) 0)) (p + m)))

-- what the list at i takes at p
abbrev pub list_of : List ℕ → List ℕ → List ℕ → ℕ → List ℕ → ℕ → ℕ → ℕ
list_of t s cs n lists i p = run_of (choice_at lists i) t s cs n lists (i + 2) p (get_or lists (i + 1) 0) (taken_by (choice_at lists i) 0)

-- the list at i is of part x
abbrev pub Listed : List ℕ → List ℕ → ℕ → ℕ → Type 0
Listed t lists i x = (s cs : List ℕ) (n p : ℕ) → ev s cs n (tree_of t x) p ≡ list_of t s cs n lists i p

-- part x is the first j parts listed from i on behind part y
abbrev pub Above : List ℕ → List ℕ → Bool → ℕ → ℕ → ℕ → ℕ → Type 0
Above t lists c i x j y = (s cs : List ℕ) (n p : ℕ) → ev s cs n (tree_of t x) p ≡ run_of c t s cs n lists i p j (ev s cs n (tree_of t y) p)

-- where the lists of n symbols' bodies and of all keys' parts begin stands in the first words
pub record AllListed (t mem : List ℕ) (n : ℕ) (lists : List ℕ) : Type 0 where
  pub few : get_or mem count_at 0 ≤ 1025
  pub bodies : (r : ℕ) → r < n → Listed t lists (get_or lists r 0) (symbol_word t r 1)
  pub parts : (k : ℕ) → k < get_or mem count_at 0 → Listed t lists (get_or lists (64 + k) 0) (get_or mem (parts_at + k) 0)
