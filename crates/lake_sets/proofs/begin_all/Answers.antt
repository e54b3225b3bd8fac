use mathlib.Core.Path.{◌≡◌, refl, ap, ◌∙◌}
use Prim.Native.Nat.{◌-◌}
use native.Mathlib.Omega.{arith}
use lib.ListN.{length, length-set}
use Rattle.lake_sets.specs.laws.Fills.{begun_more, begun-done}
use Rattle.lake_sets.proofs.begin_all.Goals as goal

pub loop-e-init : goal.loop-e-init
loop-e-init c = (refl, omega arith, λ r x h j p. let z : ⊥ = omega arith in absurd z)

pub loop-e-preserved : goal.loop-e-preserved
loop-e-preserved c = let q : length c.begin_one.new.sets ≡ length
    c.args.sets.now = c.begin_one.ensures.set_long ∙
    c.loop-e.invariant.0 in
    let w : length c.begin_one.new.eps ≡ length
    c.args.sets.now = ap length
    c.begin_one.ensures.eps-is ∙ simp length-set c.loop-e.invariant.1 in (
      q,
      w,
      λ r x h. begun_more c.args.t.now
          c.args.marks.now
          (length c.args.sets.now)
          c.loop-e.e c.loop-e.sets
          c.loop-e.eps c.begin_one.new.sets
          c.begin_one.new.eps (omega arith) (omega arith) (omega arith) c.begin_one.ensures r x h
          (c.loop-e.invariant.2 r x h),
    )

pub returns : goal.returns
returns c = λ r x h. begun-done c.args.t.now c.args.marks.now
    (length c.args.sets.now) c.loop-e.sets c.loop-e.eps (omega arith) (omega arith) (λ j p. c.loop-e.invariant.2 r x h j (omega arith))
