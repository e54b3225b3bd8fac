-- What is done where a byte stands, listed once a byte: which cells are set to what, which symbols' bodies are evaluated and in what order, and for which keys
-- rounds are remembered. Assumes nothing: these are definitions.
use Rattle.std.specs.Prelude.{ℕ, suc, ◌+◌, ◌≤◌, ◌<◌, ◌≡◌, cond, List, [], ◌∷◌, eqb, get_or}
use Rattle.grammar_table.specs.Table.{words_from}
use Rattle.match_eval.specs.steps.Firsts.{said_of, word_of}
use Rattle.match_eval.specs.steps.Memory.{count_at, parts_at, Key}

-- the symbols of a list of whose bodies nothing is said where byte b stands
unfoldable pub opens_of : List ℕ → List ℕ → ℕ → List ℕ → List ℕ
opens_of t mem b [] = []
opens_of t mem b (r ∷ rs) = cond (eqb (word_of t mem b r) 0) (r ∷ opens_of t mem b rs) (opens_of t mem b rs)

-- the part listed at k has key k + 1, and it is said to take just byte b
abbrev pub Takes : List ℕ → ℕ → ℕ → Type 0
Takes mem b k = Key mem (get_or mem (parts_at + k) 0) (k + 1) × (said_of mem b (get_or mem (parts_at + k) 0) ≡ 3)

-- ── a byte's record at o, with n symbols: their cells; how many of them are open; how many tasks there are; the tasks, open symbols first, then keys; how many
-- keys take just the byte; these keys ──
abbrev pub open_count : List ℕ → ℕ → ℕ → ℕ
open_count plan n o = get_or plan (o + n) 0

abbrev pub task_count : List ℕ → ℕ → ℕ → ℕ
task_count plan n o = get_or plan (o + n + 1) 0

abbrev pub task_at : List ℕ → ℕ → ℕ → ℕ → ℕ
task_at plan n o j = get_or plan (o + n + 2 + j) 0

abbrev pub takers_at : List ℕ → ℕ → ℕ → ℕ
takers_at plan n o = o + n + 2 + task_count plan n o

abbrev pub taker_count : List ℕ → ℕ → ℕ → ℕ
taker_count plan n o = get_or plan (takers_at plan n o) 0

abbrev pub taker_at : List ℕ → ℕ → ℕ → ℕ → ℕ
taker_at plan n o j = get_or plan (takers_at plan n o + 1 + j) 0

-- the record of byte b says what the memory says: a key k + 1 is the task 64 + k
pub record Recorded (t mem order : List ℕ) (n : ℕ) (plan : List ℕ) (b o : ℕ) : Type 0 where
  pub fits : o + n ≤ 5120
  pub row : (r v : ℕ) → r < n → word_of t mem b r ≡ suc v → get_or plan (o + r) 0 ≡ v
  pub opens : words_from plan (o + n + 2) (open_count plan n o) ≡ opens_of t mem b (words_from order 0 n)
  pub below : (j : ℕ) → j < open_count plan n o → task_at plan n o j < n
  pub first : open_count plan n o ≤ task_count plan n o
  pub keys : (j : ℕ) → open_count plan n o ≤ j → j < task_count plan n o → (64 ≤ task_at plan n o j) × (task_at plan n o j < 64 + get_or mem count_at 0)
  pub takes : (j : ℕ) → j < taker_count plan n o → (taker_at plan n o j < 1025) × Takes mem b (taker_at plan n o j)

-- the records of all bytes; a byte whose word is 0 has none
pub record Planned (t mem order : List ℕ) (n : ℕ) (plan : List ℕ) : Type 0 where
  pub records : (b : ℕ) → b < 256 → (get_or plan b 0 ≡ 0 → ⊥) → Recorded t mem order n plan b (get_or plan b 0)
