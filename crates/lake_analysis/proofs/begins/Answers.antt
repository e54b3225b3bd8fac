use mathlib.Core.Path.{◌≡◌, subst}
use Prim.Native.Nat.{ℕ}
use native.Mathlib.Omega.{arith}
use lib.ListN.{length}
use Rattle.lake_sets.specs.steps.Steps.{BegunAll}
use Rattle.lake_analysis.proofs.begins.Goals as goal

pub returns : goal.returns
returns c = record {
  marks = c.mark_all.ensures;
  begins = subst (λ (n : ℕ). BegunAll
      c.args.t.now c.mark_all.new.marks n
      c.begin_all.new.sets c.begin_all.new.eps) (let q : length
      c.mark_all.new.sets ≡ length
      c.args.sets.now = omega arith in q) c.begin_all.ensures;
}
