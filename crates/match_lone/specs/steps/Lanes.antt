-- What bytes decide of rounds, laid out in the desk's lanes: 4 of 256 words, one word a byte. A word that is not 0 says which part it is about, and what its
-- byte decides of a round (Lone), by its code. Assumes nothing: these are definitions.
use Rattle.std.specs.Prelude.{ℕ, ◌+◌, ◌*◌, ◌≤◌, ◌<◌, ◌≡◌, List, get_or, Option, None, Some}
use Rattle.grammar_table.specs.Table.{expression_count}
use Rattle.match_desk.specs.steps.Desk.{lanes_at, Desk}
use Rattle.match_lone.specs.declared.Round.{Round}
use Rattle.match_lone.specs.declared.Round.TheVariants.{Silent, Node}
use Rattle.match_lone.specs.steps.Lone.{Lone}

-- what is said of a round, as a number
abbrev pub code_of : Option Round → ℕ
code_of None = 1
code_of (Some Silent) = 2
code_of (Some (Node r)) = 3 + r

-- r says what is so of x where byte b stands, by some desk of the table: what a desk's marks say is so of the table
abbrev pub Told : List ℕ → List ℕ → ℕ → ℕ → Option Round → Type 0
Told t mem b x r = (k : List ℕ) × Desk t k (expression_count t) × Lone t mem k b x r

-- word w says what is so where byte b stands
abbrev pub Tells : List ℕ → List ℕ → ℕ → ℕ → Type 0
Tells t mem b w = (x : ℕ) (r : Option Round) → code_of r ≤ 4096 → w ≡ 8192 * x + code_of r → Told t mem b x r

-- the first i words of the lanes of desk k say what is so
pub record Laid (t mem k : List ℕ) (i : ℕ) : Type 0 where
  pub says : (j b : ℕ) → 256 * j + b < i → b < 256 → Tells t mem b (get_or k (lanes_at + (256 * j + b)) 0)

-- w is one of them, where byte b stands
abbrev pub Among : List ℕ → ℕ → ℕ → ℕ → Type 0
Among k i b w = (j : ℕ) × (256 * j + b < i) × (b < 256) × (w ≡ get_or k (lanes_at + (256 * j + b)) 0)

-- what stands behind the returns is as it was
abbrev pub Behind : List ℕ → List ℕ → Type 0
Behind old new = (j : ℕ) → lanes_at ≤ j → get_or new j 0 ≡ get_or old j 0
