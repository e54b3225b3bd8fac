-- The mode of a byte that is not 0. Assumes nothing.
use Rattle.std.specs.Prelude.{ℕ, zero, suc, ◌≡◌, refl}
use Rattle.read_tokens.specs.declared.Mode.TheVariants.{Plain}
use Rattle.library_numbers.specs.Words.{mode_of}

pub mode-rest : (k : ℕ) → (k ≡ 0 → ⊥) → Plain ≡ mode_of k
mode-rest zero f = absurd (f refl)
mode-rest (suc k) f = refl
