-- What sets that flow along edges reach. Assumes nothing.
use Rattle.std.specs.Prelude.{◌≡◌, refl, ◌≢◌, ◌⊎◌, List, [], ◌∷◌, ◌++◌, ℕ, zero, suc, ◌+◌, ◌*◌, ◌≤◌, ◌<◌, length, get_or, set, replicate}
use Rattle.std.proofs.Common.{sym, ap, ◌∙◌, subst, inl, inr, ⊎_elim, arith, length-set, get_or-set_same, get_or-set_other}
use Rattle.std.proofs.Math.Decide.{ℕ_discrete}
use Rattle.std.proofs.lemmas.List.{length-replicate, get_or-replicate}
use Rattle.base_facts.specs.laws.Numbers.{same?}
use Rattle.base_rounds.specs.Flow.{Edge, hand_on, flow}
use Rattle.base_rounds.specs.Rounds.{First, iter}
use Rattle.base_rounds.specs.laws.Fix.{Lattice, rounds-bound, iter-below, iter-good}
use Rattle.base_rounds.specs.laws.Cells.{Joins, Every, Below, cells}

-- every edge is between cells below n
abbrev pub Inside : ℕ → List Edge → Type 0
Inside n [] = Unit {0}
Inside n (e ∷ es) = (e.from < n) × (e.to < n) × Inside n es
