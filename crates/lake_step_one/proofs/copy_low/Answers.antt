use Rattle.std.proofs.Common.{arith, refl, ◌≡◌, ap, ◌∙◌, ℕ, List, length, get_or, set, length-set}
use Rattle.lake_step_one.proofs.laws.Final.{copied_more}
use Rattle.lake_step_one.proofs.copy_low.Goals as goal

pub loop-i-init : goal.loop-i-init
loop-i-init c = (refl, λ j p l. let z : ⊥ = omega arith in absurd z)

pub loop-i-preserved : goal.loop-i-preserved
loop-i-preserved c =
    let e : c.put.new.a ≡ set c.loop-i.mid c.loop-i.i (get_or c.args.t.now c.loop-i.i 0) = c.put.ensures ∙ ap (set c.loop-i.mid c.loop-i.i) c.word.ensures.0 in (
      ap length e ∙ length-set c.loop-i.mid c.loop-i.i (get_or c.args.t.now c.loop-i.i 0) ∙ c.loop-i.invariant.0,
      λ j p l. ap (λ (x : List ℕ). get_or x j 0) e ∙ copied_more
          c.args.t.now c.loop-i.mid
          c.loop-i.i j (length c.args.mid.now)
          c.loop-i.invariant.0 c.loop-i.invariant.1 p l,
    )

pub returns : goal.returns
returns c = λ i p l. c.loop-i.invariant.1 i (omega arith) l
