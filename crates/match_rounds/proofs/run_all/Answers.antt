use native.Mathlib.Omega.{arith}
use Prim.Native.Nat.{◌+◌}
use mathlib.Core.Path.{sym, subst, ◌∙◌}
use lib.ListN.{get_or}
use Rattle.match_eval.specs.steps.Firsts.{byte_at}
use Rattle.match_plan.specs.steps.Plan.{Takes}
use Rattle.match_plan.specs.laws.Plan.{take_same}
use Rattle.match_rounds.proofs.run_all.Goals as goal

pub run_byte-requires : goal.run_byte-requires
run_byte-requires c = (
  (
    c.requires.0.0,
    omega (
      arith,
      c.word-k.ensures.0,
      (c.requires.1 c.loop-j.j
          c.loop-j-test.true).0,
    ),
    c.requires.0.3,
    c.requires.0.4,
    subst (Takes c.loop-j.mem (byte_at c.args.s.now
        c.args.all.p)) (sym c.word-k.ensures.0)
        (take_same c.args.t.now c.args.mem.now
        c.loop-j.mem c.loop-j.invariant.1 (byte_at
        c.args.s.now c.args.all.p) (get_or
        c.args.plan.now
        (c.args.all.i + c.loop-j.j) 0)
        (c.requires.1 c.loop-j.j c.loop-j-test.true).0
        (c.requires.1 c.loop-j.j
        c.loop-j-test.true).1),
  ),
  c.loop-j.invariant.0,
)

pub loop-j-preserved : goal.loop-j-preserved
loop-j-preserved c = (
  c.run_byte.ensures.0,
  λ j l. c.run_byte.ensures.1 j l ∙ c.loop-j.invariant.1 j l,
)
