-- Sets of two words, one within another, and a run of them (01, Lakes made plain: "a set is two 64-bit words"). Assumes nothing: these are definitions.
use Rattle.std.specs.Prelude.{◌≡◌, List, ℕ, ◌^◌, ◌≤◌, ◌<◌, length, get_or}
use Rattle.base_words.specs.Set.{bit}

-- a set over r symbols and t terminals
pub record Set2 (r t : ℕ) (s : List ℕ) : Type 0 where
  pub two : length s ≡ 2
  pub first : get_or s 0 0 < 2 ^ r
  pub second : get_or s 1 0 < 2 ^ t

-- what is in s is in u
pub record In2 (s u : List ℕ) : Type 0 where
  pub first : (k : ℕ) → bit (get_or s 0 0) k ≤ bit (get_or u 0 0) k
  pub second : (k : ℕ) → bit (get_or s 1 0) k ≤ bit (get_or u 1 0) k

-- n entries, of each of which P holds
pub record Every {A : Type 0} (P : A → Type 0) (d : A) (n : ℕ) (s : List A) : Type 0 where
  pub long : length s ≡ n
  pub each : (i : ℕ) → i < n → P (get_or s i d)
