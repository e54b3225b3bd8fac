use mathlib.Core.Bool.{false}
use mathlib.Core.Path.{refl}
use native.Mathlib.Omega.{arith}
use lib.ListN.{get_or, length-set}
use lib.Seq.{ext_get_or}
use Rattle.base_rounds.proofs.laws.Fill.{fill_more}
use Rattle.lake_calls.proofs.loops.copy.Goals as goal

pub loop-i-preserved : goal.loop-i-preserved
loop-i-preserved c = (
  simp length-set c.loop-i.invariant.0,
  fill_more false (λ j. get_or c.args.from.now j false) c.loop-i.to c.loop-i.i (get_or c.args.from.now c.loop-i.i false)
      c.loop-i.invariant.1 (omega (arith, c.loop-i.invariant.0, c.loop-i-test.true)) refl,
)

pub returns : goal.returns
returns c = ext_get_or false _ _ (omega (arith, c.loop-i.invariant.0, c.requires)) (λ i p. c.loop-i.invariant.1 i (omega (arith, p, c.loop-i-test.false, c.loop-i.invariant.0, c.requires)))
