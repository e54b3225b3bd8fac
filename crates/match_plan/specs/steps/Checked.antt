-- What is checked of a record, part by part. Assumes nothing: these are definitions.
use Rattle.std.specs.Prelude.{ℕ, suc, ◌+◌, ◌≤◌, ◌<◌, ◌≡◌, List, get_or}
use Rattle.grammar_table.specs.Table.{words_from}
use Rattle.match_eval.specs.steps.Firsts.{word_of}
use Rattle.match_eval.specs.steps.Memory.{count_at}
use Rattle.match_plan.specs.steps.Plan.{opens_of, Takes, Recorded}

-- the cell of symbol r in the record at o is what is said of its body
abbrev pub Cell : List ℕ → List ℕ → ℕ → List ℕ → ℕ → ℕ → Type 0
Cell t mem b plan o r = (v : ℕ) → word_of t mem b r ≡ suc v → get_or plan (o + r) 0 ≡ v

-- the m words from i on are the open ones of the first j listed symbols, and symbols
pub record Opens (t mem order : List ℕ) (n b : ℕ) (plan : List ℕ) (i j m : ℕ) : Type 0 where
  pub listed : words_from plan i m ≡ opens_of t mem b (words_from order 0 j)
  pub small : (k : ℕ) → k < m → get_or plan (i + k) 0 < n

-- x is the task of a key
abbrev pub Task : List ℕ → ℕ → Type 0
Task mem x = (64 ≤ x) × (x < 64 + get_or mem count_at 0)

-- key k + 1 has a part, and this takes just byte b
abbrev pub Taker : List ℕ → ℕ → ℕ → Type 0
Taker mem b k = (k < 1025) × Takes mem b k

-- byte b has no record or a right one
abbrev pub Right : List ℕ → List ℕ → List ℕ → ℕ → List ℕ → ℕ → Type 0
Right t mem order n plan b = (get_or plan b 0 ≡ 0 → ⊥) → Recorded t mem order n plan b (get_or plan b 0)
