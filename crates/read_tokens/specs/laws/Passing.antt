-- The bytes of an item that are still to be passed are passed in one go. Assumes nothing.
use Prim.Native.Nat.{ℕ, zero, suc, ◌+◌}
use Rattle.std.specs.Prelude.{◌≡◌, drop}
use Rattle.std.proofs.Math.Path.{refl, ap}
use Rattle.std.proofs.Common.{◌∙◌, arith, drop-drop}
use mathlib.Core.List.{List, [], ◌∷◌}
use Rattle.read_tokens.specs.Chars.{Item, Body, body}

module _ (close : ℕ) (step : List ℕ → Item) where
  pub passes : (k at : ℕ) (l : List ℕ) → body close step k at l ≡ body close step 0 (at + k) (drop k l)
  unfolding body
  passes zero at [] = refl
  passes zero at (b ∷ l) = ap (λ (n : ℕ). body close step 0 n (b ∷ l)) (omega arith)
  passes (suc k) at [] = refl
  passes (suc k) at (b ∷ l) = passes k (suc at) l ∙ ap (λ (n : ℕ). body close step 0 n (drop k l)) (omega arith)

  -- the loop from a place of the text on
  abbrev pub from : List ℕ → ℕ → Body
  from s i = body close step 0 i (drop i s)

  pub passed : (s : List ℕ) (i k : ℕ) → body close step k (suc i) (drop (i + 1) s) ≡ from s (i + suc k)
  passed s i k =
      passes k (suc i) (drop (i + 1) s)
      ∙ ap (λ (x : List ℕ). body close step 0 (suc i + k) x) (drop-drop k (i + 1) s)
      ∙ at_place (suc i + k) (i + 1 + k) (i + suc k) (omega arith) (omega arith)
    where
      at_place : (a b c : ℕ) → a ≡ c → b ≡ c → body close step 0 a (drop b s) ≡ body close step 0 c (drop c s)
      at_place a b c x y = rw (x, y)
