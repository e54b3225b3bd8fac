use native.Mathlib.Omega.{arith}
use mathlib.Core.Path.{sym, subst}
use mathlib.Core.List.{List}
use Prim.Native.Nat.{ℕ}
use Rattle.match_eval.specs.steps.Memory.{Ready}
use Rattle.match_eval.proofs.laws.Words.{ready-seen}
use Rattle.match_firsts.proofs.decide_once.Goals as goal

pub decide_part-requires : goal.decide_part-requires
decide_part-requires c = (
  (
    c.requires.0.0,
    c.requires.0.1,
  ),
  subst
      (λ (v : List ℕ). Ready c.args.t.now
      c.args.n v) (sym c.put.ensures)
      (ready-seen c.args.t.now
      c.args.mem.now
      c.args.n
      c.requires.1
      c.args.b
      (omega (arith, c.requires.0.1)) 1),
)
