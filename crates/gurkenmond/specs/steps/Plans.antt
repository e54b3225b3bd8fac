-- What is left to do of a summary once all is checked. Assumes nothing: these are definitions.
use Rattle.std.specs.Prelude.{ℕ, List, length}
use Rattle.read_tokens.specs.declared.Mode.{Mode}
use Rattle.grammar.specs.Refusal.{◌▸◌}
use Rattle.prepare.specs.Prepare.{prepared, refuses}
use Rattle.tree_summary.specs.declared.Plan.{Plan}
use Rattle.tree_summary.specs.steps.Judging.{summary_checks, plan_by}

unfoldable pub plan_of : Mode → List ℕ → List ℕ → List ℕ → ℕ → Plan
plan_of m t s ws room = let R : ℕ = length (prepared m t).grammar.names in plan_by (refuses m t ▸ summary_checks R s ws room) R ws
