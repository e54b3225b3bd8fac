-- A refusal, and checks in the order of the table (01, Refusal numbers). Assumes nothing: these are definitions.
use Rattle.std.specs.Prelude.{ℕ, Bool, true, false}
use Rattle.std.proofs.Math.Option.{Option, none, some}

-- "a refusal has a number and a place"
pub record Refusal : Type 0 where
  pub number : ℕ
  pub place : ℕ

abbrev pub refusal : ℕ → ℕ → Refusal
refusal n p = record { number = n; place = p }

-- the first check that refuses; a later one is asked only where the earlier ones let it through
infixr 20 ◌▸◌
abbrev pub ◌▸◌ : Option Refusal → Option Refusal → Option Refusal
none ▸ b = b
some r ▸ b = some r

-- refused k at p if the test holds
abbrev pub refuse_if : Bool → ℕ → ℕ → Option Refusal
refuse_if true k p = some (refusal k p)
refuse_if false k p = none

-- refused k at the place that was found
abbrev pub refuse_at : ℕ → Option ℕ → Option Refusal
refuse_at k none = none
refuse_at k (some p) = some (refusal k p)
