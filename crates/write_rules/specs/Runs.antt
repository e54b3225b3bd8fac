-- A class as written (01, Writing: "runs of two or more class bytes as lo-hi, ascending"): which ranges stand for which class.
-- That the ranges of `runs` are these, and no others are, is proved in laws/Runs. Assumes nothing: these are definitions.
use Rattle.std.specs.Prelude.{ℕ, suc, ◌≤◌, ◌<◌, ◌≡◌, Bool, true, false, List, [], ◌∷◌, ◌⊎◌, get_or}
use Rattle.read_tokens.specs.Chars.{Range}

-- byte b is in the class with these marks
abbrev pub has : List Bool → ℕ → Bool
has l b = get_or l b false

-- a run: one byte after the other in the class, and neither the byte before nor the byte behind
pub record ClassRun (l : List Bool) (r : Range) : Type 0 where
  pub order : r.lo ≤ r.hi
  pub inside : (b : ℕ) → r.lo ≤ b → b ≤ r.hi → has l b ≡ true
  pub before : (b : ℕ) → suc b ≡ r.lo → has l b ≡ false
  pub behind : has l (suc r.hi) ≡ false

abbrev pub Each : (Range → Type 0) → List Range → Type 0
Each P [] = Unit {0}
Each P (r ∷ rs) = P r × Each P rs

-- b is in one of the ranges
abbrev pub Covers : List Range → ℕ → Type 0
Covers [] b = ⊥
Covers (r ∷ rs) b = ((r.lo ≤ b) × (b ≤ r.hi)) ⊎ Covers rs b

abbrev pub Ascending : List Range → Type 0
Ascending [] = Unit {0}
Ascending (r ∷ rs) = Each (λ s. r.hi < s.lo) rs × Ascending rs

-- the runs of a class, ascending, and every byte of it in one of them
pub record RunsOf (l : List Bool) (rs : List Range) : Type 0 where
  pub each : Each (ClassRun l) rs
  pub ascending : Ascending rs
  pub all : (b : ℕ) → has l b ≡ true → Covers rs b
