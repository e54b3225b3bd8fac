use Rattle.std.proofs.Common.{arith, refl, ◌≡◌, sym, ap, ◌∙◌, ℕ, ◌+◌}
use Rattle.lake_step_one.proofs.laws.Stores.{grew-as}
use Rattle.lake_step_one.proofs.laws.Shifts.{front, front-none, front-all, run_more}
use Rattle.lake_step_one.proofs.copy_run.Goals as goal

pub loop-j-init : goal.loop-j-init
loop-j-init c = (refl, λ number e s w h. front-none number c.args.m e c.args.mid.now)

pub loop-j-preserved : goal.loop-j-preserved
loop-j-preserved c = (
  omega (arith, c.copy_one.auto),
  λ number e s w h. run_more number
      c.args.t.now c.args.mid.now
      c.loop-j.mid c.copy_one.new.mid c.args.a
      c.args.m e c.loop-j.j (omega arith) (omega arith) h
      c.copy_one.ensures (c.loop-j.invariant.1 number e s w h),
)

pub returns : goal.returns
returns c = λ number e s w h. let q : c.loop-j.j ≡ c.args.k = omega arith in
    grew-as (c.loop-j.invariant.1 number e s w h) (ap (front number c.args.m e) (q ∙ sym s) ∙ front-all number
    c.args.m e) (ap (λ (i : ℕ). c.args.m + i) q)
