-- First calls, loops and ranks (01, Lakes made plain: "X first-calls each symbol in its plain body before which nothing need be consumed").
-- A set of symbols is one word, bit = number. Assumes nothing: these are definitions.
use Rattle.std.specs.Prelude.{ℕ, zero, suc, ◌^◌, Bool, true, false, cond, not, ◌&&◌, List, [], ◌∷◌, ◌++◌, map, length, get_or, eqb}
use Rattle.std.proofs.Math.Option.{Option, none, some}
use Rattle.std.specs.Int.Bits.{bit_or}
use Rattle.grammar.specs.Exp.{Exp, sym, ter, seq, alt, opt, star, plus, ahead, never}
use Rattle.grammar.specs.Refusal.{Refusal, refuse_at}
use Rattle.grammar_table.specs.Table.{up_to}
use Rattle.base_words.specs.Set.{bit, ones}
use Rattle.base_rounds.specs.Rounds.{iter}
use Rattle.grammar.specs.Empty.{has_empty}
use Rattle.lake_rules.specs.Beginning.{marked, marks_of}

-- "both sides of a choice, the right of a sequence whose left has ε, and under `&`, `!`, `?`, `*`, `+`"
unfoldable pub first_calls : (ℕ → Bool) → Exp ℕ → ℕ
first_calls m (sym r) = 2 ^ r
first_calls m (ter x) = 0
first_calls m (seq a b) = bit_or (first_calls m a) (cond (has_empty m a) (first_calls m b) 0)
first_calls m (alt a b) = bit_or (first_calls m a) (first_calls m b)
first_calls m (opt a) = first_calls m a
first_calls m (star a) = first_calls m a
first_calls m (plus a) = first_calls m a
first_calls m (ahead a) = first_calls m a
first_calls m (never a) = first_calls m a

-- of each symbol, by its plain body
unfoldable pub calls_of : List (Exp ℕ) → List ℕ
calls_of bodies = map (first_calls (marked (marks_of bodies))) bodies

abbrev pub holds : ℕ → ℕ → Bool
holds w r = eqb (bit w r) 1

-- the union of what the symbols of w, those below n, call
unfoldable pub all_called : List ℕ → ℕ → ℕ → ℕ
all_called calls w zero = 0
all_called calls w (suc n) = bit_or (all_called calls w n) (cond (holds w n) (get_or calls n 0) 0)

-- what r reaches in one call or more
unfoldable pub reach : List ℕ → ℕ → ℕ
reach calls r = iter (λ w. bit_or w (all_called calls w (length calls))) (get_or calls r 0) (length calls)

-- refusal 8: "a loop is a symbol that reaches itself", "smallest symbol on one"; of the n symbols from r on
unfoldable pub loop_from : List ℕ → ℕ → ℕ → Option ℕ
loop_from calls zero r = none
loop_from calls (suc n) r = elim (holds (reach calls r) r) [ true ↦ some r | false ↦ loop_from calls n (suc r) ]

unfoldable pub loop : List (Exp ℕ) → Option ℕ
loop bodies = let calls : List ℕ = calls_of bodies in loop_from calls (length calls) 0

-- ranks that fall along every first call, where there is no loop: how many symbols a symbol reaches
unfoldable pub ranks_of : List ℕ → List ℕ
ranks_of calls = up_to (λ r. ones (length calls) (reach calls r)) (length calls)

-- the symbols of rank k, those of the list, numbered from r on
unfoldable pub of_rank : ℕ → ℕ → List ℕ → List ℕ
of_rank k r [] = []
of_rank k r (x ∷ xs) = elim (eqb x k) [ true ↦ r ∷ of_rank k (suc r) xs | false ↦ of_rank k (suc r) xs ]

unfoldable pub order_from : List ℕ → ℕ → ℕ → List ℕ
order_from ranks zero k = []
order_from ranks (suc n) k = of_rank k 0 ranks ++ order_from ranks n (suc k)

-- the symbols by rank, then by number: the order in which cells are filled at a position
unfoldable pub order : List (Exp ℕ) → List ℕ
order bodies = let ranks : List ℕ = ranks_of (calls_of bodies) in order_from ranks (length ranks) 0

-- 8: "loop", place the "smallest symbol on one"
abbrev pub looping : List (Exp ℕ) → Option Refusal
looping bodies = refuse_at 8 (loop bodies)
