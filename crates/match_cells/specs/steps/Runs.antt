-- The filled cells of a table, as code says them. Assumes nothing: these are definitions.
use Rattle.std.specs.Prelude.{ℕ, zero, suc, ◌+◌, ◌*◌, ◌≤◌, ◌<◌, false, cond, ◌≡◌, List, ◌⊎◌, ltb, get_or, length, set}
use Rattle.std.proofs.Math.Option.{none}
use Rattle.grammar.specs.Exp.{Exp}
use Rattle.grammar.specs.Numbers.{Grammar}
use Rattle.grammar_table.specs.Holds.{Holds}
use Rattle.grammar.specs.Numbers.{terminal_in}
use Rattle.lake_step_one.specs.Proper.{SoundAll}
use Rattle.lake_step_one.specs.steps.Made.{with_bodies}
use Rattle.lake_plain.specs.Calls.{holds, loop, order}
use Rattle.match_cells.specs.Cells.{row_of, cells}
use Rattle.match_eval.specs.steps.Firsts.{byte_at, word_of, Silent, preset_of}
use Rattle.match_eval.specs.steps.Memory.{Knows}
use Rattle.match_parts.specs.steps.Lists.{AllListed}
use Rattle.match_plan.specs.steps.Plan.{Planned}

-- a table that holds a plain grammar with a body for each symbol, whose symbols and terminals are all there
pub record Plain (t : List ℕ) (g : Grammar) (bodies : List (Exp ℕ)) : Type 0 where
  pub holds : Holds t (with_bodies g bodies)
  pub sound : SoundAll (terminal_in g) (length g.names) (length g.terminals) bodies

-- a word that has every symbol from k on, of those below n, of which nothing is said where byte b stands
abbrev pub Open : List ℕ → List ℕ → ℕ → ℕ → ℕ → ℕ → Type 0
Open t mem b k n w = (r : ℕ) → k ≤ r → r < n → holds w r ≡ false → word_of t mem b r ≡ 0 → ⊥

-- the record of a byte in a plan; 0 where it has none
abbrev pub record_of : List ℕ → ℕ → ℕ
record_of plan b = cond (ltb b 256) (get_or plan b 0) 0

-- the cells of n symbols from i on, set to the words of a record at o
unfoldable pub copy_of : List ℕ → ℕ → ℕ → ℕ → List ℕ → List ℕ
copy_of plan o i zero cs = cs
copy_of plan o i (suc r) cs = set (copy_of plan o i r cs) (i + r) (get_or plan (o + r) 0)

-- a place's cells, set by its byte's record if it has one, else to what is said
unfoldable pub set_by : ℕ → List ℕ → List ℕ → List ℕ → ℕ → ℕ → ℕ → List ℕ → List ℕ
set_by zero t mem plan b i n cs = preset_of t mem b i n cs
set_by (suc o) t mem plan b i n cs = copy_of plan (suc o) i n cs

abbrev pub set_of : List ℕ → List ℕ → List ℕ → ℕ → ℕ → ℕ → List ℕ → List ℕ
set_of t mem plan b i n cs = set_by (record_of plan b) t mem plan b i n cs

-- there are cells for every place, or nothing is said and there is no record: then cells can be set
abbrev pub Settable : List ℕ → List ℕ → List ℕ → ℕ → ℕ → Type 0
Settable mem plan s n have = ((length s + 1) * n ≤ have) ⊎ (Silent mem × ((b : ℕ) → record_of plan b ≡ 0))

-- what the places below k ask for to be filled: the order has symbols, the cells from k on are right and can be set, and the plan says what the memory says;
-- where there is a record there are lists of parts too
pub record Fillable (t s cs mem order plan lists : List ℕ) (n k : ℕ) : Type 0 where
  pub few : n ≤ 64
  pub symbols : (j : ℕ) → j < n → get_or order j 0 < n
  pub short : length s ≤ 65535
  pub within : k ≤ length s + 1
  pub known : Knows t s cs n mem k k
  pub settable : Settable mem plan s n (length cs)
  pub planned : Planned t mem order n plan
  pub listed : (b : ℕ) → (record_of plan b ≡ 0 → ⊥) → AllListed t mem n lists

-- the cells after the places below the first number have been stored, the last first, each after its cells were set by its byte
unfoldable pub fill_by : List ℕ → List ℕ → List ℕ → List (Exp ℕ) → List ℕ → ℕ → ℕ → List ℕ → List ℕ → List ℕ
fill_by t mem plan bodies s n zero order cs = cs
fill_by t mem plan bodies s n (suc p) order cs = fill_by t mem plan bodies s n p order (row_of bodies s p order (set_of t mem plan (byte_at s p) (p * n) n cs))

-- the same by some memory and plan, for every place
abbrev pub FilledBy : List ℕ → List (Exp ℕ) → List ℕ → ℕ → List ℕ → List ℕ → List ℕ → Type 0
FilledBy t bodies s n order old new =
    (mem : List ℕ) × (plan : List ℕ) × Settable mem plan s n (length old) × (new ≡ fill_by t mem plan bodies s n (length s + 1) order old)

-- the cells of a plain grammar without a loop
pub record Fills (t s old new : List ℕ) : Type 0 where
  pub are : (g : Grammar) (bodies : List (Exp ℕ)) → Plain t g bodies → loop bodies ≡ none → new ≡ cells bodies (order bodies) s old
