-- Rounds from a start, the first round whose next is equal, and how it is computed (01, Lakes made plain: "The reported count is the first k whose
-- next round is equal"). Assumes nothing: these are definitions.
use Rattle.std.specs.Prelude.{ℕ, zero, suc, ◌<◌, ◌≡◌, Bool, true, false}

-- round k from a start
abbrev pub iter : {S : Type 0} → (S → S) → S → ℕ → S
iter F b zero = b
iter F b (suc k) = F (iter F b k)

-- k is the first round whose next is equal
pub record First {S : Type 0} (F : S → S) (b : S) (k : ℕ) : Type 0 where
  pub stops : F (iter F b k) ≡ iter F b k
  pub before : (j : ℕ) → j < k → F (iter F b j) ≡ iter F b j → ⊥

-- a count of rounds, and the state that they lead to
pub record Settled (S : Type 0) : Type 0 where
  pub count : ℕ
  pub state : S

abbrev pub settled : {S : Type 0} → ℕ → S → Settled S
settled k x = record { count = k; state = x }

-- rounds of F from x, which is round k, up to the first whose next is equal, at most as many as the first number
module _ {S : Type 0} (same : S → S → Bool) (F : S → S) where
  unfoldable pub settle : ℕ → ℕ → S → Settled S
  settle zero k x = settled k x
  settle (suc f) k x = let y : S = F x in elim (same y x) [ true ↦ settled k x | false ↦ settle f (suc k) y ]
