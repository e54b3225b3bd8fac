-- A token that is chosen by a test has what both choices have. Assumes nothing.
use Rattle.std.specs.Prelude.{◌≡◌, refl, Bool, true, false, cond}
use Rattle.read_tokens.specs.Token.{Token}

module _ (P : Token → Type 0) where
  pub by-test : (b : Bool) (x y : Token) → (b ≡ true → P x) → P y → P (elim b [ true ↦ x | false ↦ y ])
  by-test true x y h k = h refl
  by-test false x y h k = k

  pub by_cond : (b : Bool) (x y : Token) → P x → P y → P (cond b x y)
  by_cond true x y h k = h
  by_cond false x y h k = k
