use mathlib.Core.Path.{◌≡◌, ap, ◌∙◌}
use mathlib.Core.List.{List}
use Prim.Native.Nat.{ℕ, ◌<◌, ◌≤◌}
use lib.ListN.{length}
use native.Mathlib.Omega.{arith}
use Rattle.read_tokens.specs.declared.Mode.{Mode}
use Rattle.tree_summary.specs.declared.Plan.{Plan}
use Rattle.tree_summary.specs.declared.Summary.{Summary}
use Rattle.tree_summary.specs.steps.Sweeping.{stepped, Sweepable}
use Rattle.gurkenmond.specs.steps.Plans.{plan_of}
use Rattle.gurkenmond.specs.laws.Summaries.{plan-fits, plan-says}
use Rattle.gurkenmond.proofs.summarise.Goals as goal

fits : (m : Mode) (g s ws : List ℕ) (rs : List Summary) (p : Plan) → p ≡ plan_of m g s ws (length rs) → length ws < 18446744073709551616 → 0 < p.steps
    → Sweepable ws p.symbols p.steps × (p.symbols ≤ length rs)
fits m g s ws rs p e long = rw e (plan-fits m g s ws rs long)

pub update_all-requires : goal.update_all-requires
update_all-requires c =
    fits c.args.mode c.args.text.now c.args.input.now c.args.nodes.now c.args.records.now c.planned-p.result c.planned-p.ensures (omega arith)

pub returns : goal.returns
returns c =
    plan-says c.args.mode c.args.text.now c.args.input.now c.args.nodes.now c.args.records.now c.planned-p.result.answer c.update_all.new.records
    (ap (λ (p : Plan). p.answer) c.planned-p.ensures)
    (c.update_all.ensures ∙ ap (λ (p : Plan). stepped c.args.nodes.now p.symbols p.steps c.args.records.now) c.planned-p.ensures)
