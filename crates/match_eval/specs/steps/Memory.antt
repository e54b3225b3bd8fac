-- Rounds that are remembered, so that a repeat at a place ends with what was known at a later one (01, Meaning of a match: "A repeat ends at the first failing
-- round or the first round that takes nothing"). Repeated parts with one key have the same tree and share what is remembered. The memory is one run of words:
-- how many places of each key it keeps, how many keys there are, the key of each part, a part of each key, which bytes have been seen, what bytes decide
-- (Firsts), then three words an entry: what it is about (key · 65,536 + the first place), the place past the last, and where rounds from each of them end.
-- Assumes nothing: these are definitions.
use Rattle.std.specs.Prelude.{ℕ, suc, ◌+◌, ◌*◌, ◌≤◌, ◌<◌, ◌≡◌, List, ◌⊎◌, get_or, length, set}
use Rattle.match_eval.specs.Eval.{ev, rep}
use Rattle.grammar_table.specs.Trees.{tree_of}
use Rattle.match_eval.specs.steps.Firsts.{parts, said_at, said_of, Heard, Sure, Silent, Added}

abbrev pub count_at : ℕ
count_at = 1

abbrev pub keys_at : ℕ
keys_at = 2

abbrev pub parts_at : ℕ
parts_at = 1027

abbrev pub seen_at : ℕ
seen_at = 2052

abbrev pub entries_at : ℕ
entries_at = 18709

-- the bytes that rounds of part x take from q on
abbrev pub rounds_of : List ℕ → List ℕ → List ℕ → ℕ → ℕ → ℕ → ℕ
rounds_of t s cs n x q = rep (length s) (λ (j : ℕ). ev s cs n (tree_of t x) j) q

-- part x has key k
abbrev pub Key : List ℕ → ℕ → ℕ → Type 0
Key mem x k = (x < parts) × (0 < k) × (get_or mem (keys_at + x) 0 ≡ k)

-- a part with key k has the tree of part y
abbrev pub Found : List ℕ → List ℕ → ℕ → ℕ → Type 0
Found t mem y k = (z : ℕ) × Key mem z k × (tree_of t z ≡ tree_of t y)

-- keys are counted from 1 on, and parts with one key have the same tree
pub record Alike (t mem : List ℕ) : Type 0 where
  pub most : (x k : ℕ) → Key mem x k → k ≤ get_or mem count_at 0
  pub like : (x y k : ℕ) → Key mem x k → Key mem y k → tree_of t x ≡ tree_of t y

-- what is said of parts is so
abbrev pub Words : List ℕ → ℕ → List ℕ → Type 0
Words t n mem = (b x v : ℕ) → said_of mem b x ≡ suc v → Sure t mem n b (tree_of t x) v

-- the keys are right, and nothing is said yet
pub record Fresh (t mem : List ℕ) : Type 0 where
  pub shared : Alike t mem
  pub room : entries_at ≤ length mem
  pub blank : (j : ℕ) → seen_at ≤ j → get_or mem j 0 ≡ 0

-- the keys are right and what is said, and no entry says anything yet
pub record Ready (t : List ℕ) (n : ℕ) (mem : List ℕ) : Type 0 where
  pub shared : Alike t mem
  pub words : Words t n mem
  pub room : entries_at ≤ length mem
  pub blank : (j : ℕ) → entries_at ≤ j → get_or mem j 0 ≡ 0

-- it is said of part x and byte b, if nothing was, that it takes v; nothing else has changed
pub record Spoken (b x v : ℕ) (old new : List ℕ) : Type 0 where
  pub added : Added b x v old new
  pub aside : (j : ℕ) → (j < said_at) ⊎ (entries_at ≤ j) → get_or new j 0 ≡ get_or old j 0
  pub long : length new ≡ length old

-- the three words of entry i
abbrev pub first_of : List ℕ → ℕ → ℕ
first_of mem i = get_or mem (entries_at + 3 * i) 0

abbrev pub past_of : List ℕ → ℕ → ℕ
past_of mem i = get_or mem (entries_at + 3 * i + 1) 0

abbrev pub end_of : List ℕ → ℕ → ℕ
end_of mem i = get_or mem (entries_at + 3 * i + 2) 0

-- entry i is these words from now on, if the memory has it
abbrev pub Stored : ℕ → ℕ → ℕ → ℕ → List ℕ → List ℕ → Type 0
Stored i first past end old new =
    ((entries_at + 3 * i + 2 < length old) × (new ≡ set (set (set old (entries_at + 3 * i) first) (entries_at + 3 * i + 1) past) (entries_at + 3 * i + 2) end))
    ⊎ (new ≡ old)

-- entry i is about rounds from q on of parts with key k
abbrev pub About : List ℕ → ℕ → ℕ → ℕ → Type 0
About mem i k q = (k * 65536 ≤ first_of mem i) × (first_of mem i ≤ k * 65536 + q) × (q < past_of mem i)

-- some entry says that rounds of part x from q on take c bytes
abbrev pub Told : List ℕ → ℕ → ℕ → ℕ → Type 0
Told mem x q c = (k : ℕ) × (i : ℕ) × Key mem x k × About mem i k q × (end_of mem i ≡ q + c)

-- the keys are right and what is said; every entry is about places from k on, and says where the rounds of each part with its key end by the cells; from h
-- on the cells are what is said
pub record Knows (t s cs : List ℕ) (n : ℕ) (mem : List ℕ) (k h : ℕ) : Type 0 where
  pub shared : Alike t mem
  pub words : Words t n mem
  pub from : (i x j q : ℕ) → q < 65536 → Key mem x j → About mem i j q → k ≤ q
  pub right : (i x j q : ℕ) → q < 65536 → Key mem x j → About mem i j q → end_of mem i ≡ q + rounds_of t s cs n x q
  pub heard : (q : ℕ) → h ≤ q → q ≤ length s → Heard t mem s cs n q

-- there are cells for every place, or nothing is said: then cells can be set to what is said
abbrev pub Roomy : List ℕ → List ℕ → ℕ → ℕ → Type 0
Roomy mem s n have = ((length s + 1) * n ≤ have) ⊎ Silent mem

-- what stands before the entries is as it was
abbrev pub Front : List ℕ → List ℕ → Type 0
Front old new = (j : ℕ) → j < entries_at → get_or new j 0 ≡ get_or old j 0
