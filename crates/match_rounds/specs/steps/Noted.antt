-- An entry of the memory is made, or a run goes on (match_eval/specs/steps/Memory.antt). Assumes nothing: these are definitions.
use Rattle.std.specs.Prelude.{ℕ, ◌+◌, ◌<◌, Bool, true, false, ◌≡◌, List, ◌⊎◌}
use Rattle.match_eval.specs.steps.Memory.{About, end_of, Front}

-- what stands before the entries is as it was; what an entry is about some entry was about, and it says the same of it, or it says that rounds of parts with
-- key k take c bytes from p on
pub record Noted (k p c : ℕ) (old new : List ℕ) : Type 0 where
  pub front : Front old new
  pub at : (i j q : ℕ) → q < 65536 → About new i j q
      → ((z : ℕ) × About old z j q × (end_of new i ≡ end_of old z)) ⊎ ((j ≡ k) × (q ≡ p) × (end_of new i ≡ p + c))

-- the entry of key 0's newest run
abbrev pub runs_at : ℕ
runs_at = 4096

-- the newest run of key k begins behind p, and goes on to p
abbrev pub Longer : ℕ → ℕ → List ℕ → List ℕ → Type 0
Longer k p old new = About old (runs_at + k) k (p + 1) × ((c : ℕ) → end_of old (runs_at + k) ≡ p + c → Noted k p c old new)

-- it does, or nothing has changed
pub record GoesOn (k p : ℕ) (old new : List ℕ) (r : Bool) : Type 0 where
  pub longer : r ≡ true → Longer k p old new
  pub same : r ≡ false → new ≡ old
