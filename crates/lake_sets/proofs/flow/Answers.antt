use mathlib.Core.Path.{ap, ◌∙◌}
use Prim.Native.Nat.{ℕ}
use Rattle.std.proofs.Common.{arith, rules}
use lib.ListN.{length}
use Rattle.lake_sets.specs.steps.Steps.{handed}
use Rattle.lake_sets.specs.laws.Edges.{handed-inside}
use Rattle.lake_sets.proofs.flow.Goals as goal

pub along-requires : goal.along-requires
along-requires c = (
  c.hand_all.ensures.0,
  rw
      (c.hand_all.ensures.1, c.requires.1) (handed-inside
      c.args.t.now c.args.eps.now
      c.args.back (length
      c.args.base.now)),
  omega arith,
  search rules,
  omega arith,
  c.requires.3,
)

pub returns : goal.returns
returns c = λ n gifts q w.
    c.along.ensures n gifts (handed c.args.t.now
    c.args.eps.now
    c.args.back n n)
    (c.hand_all.ensures.1 ∙ ap (λ (k : ℕ). handed
    c.args.t.now
    c.args.eps.now
    c.args.back k k)
    (c.requires.1 ∙ w)) q w
