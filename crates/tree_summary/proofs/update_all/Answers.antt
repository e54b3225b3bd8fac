use Rattle.std.proofs.Common.{ℕ, suc, ◌≤◌, ◌<◌, ◌≡◌, refl, sym, ap, ◌∙◌, List, length, get_or, set, add-one, arith}
use Rattle.tree_summary.specs.declared.Summary.{Summary}
use Rattle.tree_summary.specs.declared.Sweep.{Sweep}
use Rattle.tree_summary.specs.Summary.{absent}
use Rattle.tree_summary.specs.Adding.{changed_by}
use Rattle.tree_summary.specs.steps.Sweeping.{Fits, Sweepable, sweep_at, stepped}
use Rattle.tree_summary.specs.laws.Sweeping.{sooner, step_fits}
use Rattle.tree_summary.proofs.update_all.Goals as goal

-- what `update` asks of the records behind i steps and the sweep of the next
asked : (ws : List ℕ) (R steps i : ℕ) (rs now : List Summary) (s : Sweep) → Sweepable ws R steps → R ≤ length rs → i < steps → now ≡ stepped ws R i rs
    → s ≡ sweep_at ws R (suc i) → (s.place < length now) × Fits (get_or now s.place absent) s.change
unfolding sweep_at
asked ws R steps i rs now s able room h e f = rw (e, f) (step_fits ws R steps i rs able room h)

-- and what it makes of them
made : (ws : List ℕ) (R i : ℕ) (rs now then : List Summary) (s : Sweep) → now ≡ stepped ws R i rs → s ≡ sweep_at ws R (suc i)
    → then ≡ set now s.place (changed_by (get_or now s.place absent) s.change) → then ≡ stepped ws R (suc i) rs
unfolding sweep_at stepped
made ws R i rs now then s e f g = g ∙ rw (e, f) refl

pub loop-i-init : goal.loop-i-init
unfolding sweep_at stepped
loop-i-init c = (c.begun-s.ensures, refl)

pub step-s-requires : goal.step-s-requires
step-s-requires c = (
  c.loop-i.invariant.0,
  sooner c.args.nodes.now c.args.symbols c.args.steps c.loop-i.i (c.requires (omega arith)).0 c.loop-i-test.true,
)

pub update-requires : goal.update-requires
update-requires c =
    asked c.args.nodes.now c.args.symbols c.args.steps c.loop-i.i c.args.records.now c.loop-i.records c.step-s.result (c.requires (omega arith)).0
    (c.requires (omega arith)).1 c.loop-i-test.true c.loop-i.invariant.1 c.step-s.ensures

pub loop-i-preserved : goal.loop-i-preserved
loop-i-preserved c = (
  c.step-s.ensures ∙ ap (sweep_at c.args.nodes.now c.args.symbols) (sym (add-one c.loop-i.i)),
  made c.args.nodes.now c.args.symbols c.loop-i.i c.args.records.now c.loop-i.records c.update.new.records c.step-s.result c.loop-i.invariant.1
      c.step-s.ensures c.update.ensures
      ∙ ap (λ (j : ℕ). stepped c.args.nodes.now c.args.symbols j c.args.records.now) (sym (add-one c.loop-i.i)),
)

pub returns : goal.returns
returns c =
    let e : c.loop-i.i ≡ c.args.steps = omega arith in
    c.loop-i.invariant.1 ∙ ap (λ (j : ℕ). stepped c.args.nodes.now c.args.symbols j c.args.records.now) e
