use native.Mathlib.Omega.{arith}
use mathlib.Core.Path.{◌∙◌}
use mathlib.Core.Logic.{⊎_elim}
use Rattle.match_walks.specs.laws.Picks.{choose-on}
use Rattle.match_walks.proofs.Filled.choose.Goals as goal

pub loop-x-preserved : goal.loop-x-preserved
loop-x-preserved c =
    let f = c.args.self.now in (
      ⊎_elim (λ h. omega (arith, h, c.look.ensures.left, c.loop-x.invariant.0)) (λ h. omega (arith, h, c.look.ensures.right, c.loop-x.invariant.0))
          c.half-x-in-loop-x.ensures.1,
      choose-on f.table.now f.text.now f.cells.now f.n c.args.g.y c.args.g.z c.args.p c.loop-x.x _ _ _ _ _
          c.loop-x.invariant.1 c.look.ensures (c.look.ensures.kind ∙ (c.is_choice.ensures c.loop-x-test.true).1) c.half-x-in-loop-x.ensures.0 c.half-x-in-loop-x.ensures.1,
    )
