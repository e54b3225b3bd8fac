use native.Mathlib.Omega.{arith}
use mathlib.Core.Path.{refl, sym, ap, subst, ◌∙◌}
use Prim.Native.Nat.{ℕ, ◌-◌}
use Rattle.match_eval.specs.steps.Firsts.{said_of, preset_of}
use Rattle.match_eval.proofs.laws.Said.{said-small}
use Rattle.match_cells.specs.steps.Runs.{Open}
use Rattle.match_cells.specs.laws.Preset.{preset-puts, preset-skips, preset-ends, open_none, open_said, open-with}
use Rattle.match_cells.proofs.filling.preset.Goals as goal

pub loop-r-init : goal.loop-r-init
loop-r-init c = (
  refl,
  omega arith,
  refl,
  open_none c.args.t.now c.args.mem.now c.args.b
      c.args.n 0,
)

pub put-requires : goal.put-requires
put-requires c = omega (
  arith,
  c.said-w.ensures,
  said-small c.args.mem.now
      c.args.b c.body-x.result,
)

pub loop-r-preserved-then-w-ne0 : goal.loop-r-preserved-then-w-ne0
loop-r-preserved-then-w-ne0 c = (
  c.put.auto.a ∙ c.loop-r.invariant.0,
  omega
      (arith, c.loop-r.invariant.1),
  ap
      (preset_of c.args.t.now
      c.args.mem.now
      c.args.b
      c.args.i
      (c.loop-r.r - 1)) c.put.ensures ∙ preset-puts
      c.args.t.now
      c.args.mem.now
      c.args.b
      c.args.i
      c.loop-r.r c.said-w.result
      c.loop-r.cells c.loop-r-test.true
      (c.said-w.ensures ∙ ap
      (said_of c.args.mem.now
      c.args.b)
      c.body-x.ensures.0)
      c.if-w-ne0.true ∙ c.loop-r.invariant.2,
  open_said
      c.args.t.now
      c.args.mem.now
      c.args.b
      c.args.n _
      c.loop-r.r c.said-w.result
      c.loop-r-test.true
      (c.said-w.ensures ∙ ap
      (said_of c.args.mem.now
      c.args.b)
      c.body-x.ensures.0) c.if-w-ne0.true
      c.loop-r.invariant.3,
)

pub loop-r-preserved : goal.loop-r-preserved
loop-r-preserved c = (
  c.loop-r.invariant.0,
  omega (arith, c.loop-r.invariant.1),
  preset-skips
      c.args.t.now
      c.args.mem.now c.args.b
      c.args.i c.loop-r.r
      c.loop-r.cells c.loop-r-test.true
      (ap (said_of c.args.mem.now
      c.args.b) (sym c.body-x.ensures.0) ∙ sym
      c.said-w.ensures ∙ c.if-w-ne0.false) ∙ c.loop-r.invariant.2,
  subst
      (λ (v : ℕ). Open c.args.t.now
      c.args.mem.now c.args.b
      (c.loop-r.r - 1) c.args.n v) (sym c.with-open.ensures)
      (open-with c.args.t.now
      c.args.mem.now c.args.b
      c.args.n _ c.loop-r.r
      c.loop-r-test.true c.loop-r.invariant.3),
)

pub returns : goal.returns
returns c = (
  preset-ends c.args.t.now c.args.mem.now
      c.args.b c.args.i c.loop-r.r c.loop-r.cells
      (omega (arith, c.loop-r-test.false)) ∙ c.loop-r.invariant.2,
  λ r l m h q. c.loop-r.invariant.3 r (omega (arith, c.loop-r-test.false)) m h q,
)
