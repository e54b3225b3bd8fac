-- What cannot fail: a guard on it is decided at every byte. Assumes nothing: these are definitions.
use Rattle.std.specs.Prelude.{ℕ, ◌≡◌, List}
use Rattle.grammar.specs.Exp.{Exp}
use Rattle.match_eval.specs.Eval.{ev}

-- an expression that matches wherever it is tried
abbrev pub Firm : Exp ℕ → Type 0
Firm e = (s cs : List ℕ) (n p : ℕ) → ev s cs n e p ≡ 0 → ⊥
