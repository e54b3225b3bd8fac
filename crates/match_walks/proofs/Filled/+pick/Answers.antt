use mathlib.Core.Path.{◌∙◌}
use Rattle.match_walks.specs.laws.Picks.{pick_first, pick_second}
use Rattle.match_walks.proofs.Filled.+pick.Goals as goal

pub returns-in-Some : goal.returns-in-Some
returns-in-Some t c =
    let f = c.args.self.now in
    pick_first f.table.now f.text.now f.cells.now f.n c.args.x c.args.p _ _ _ _ c.look-y.ensures (c.look-y.ensures.kind ∙ (c.is_choice.ensures c.if-is_choice.true).1)
    _ c.in-Some.ensures

pub returns-in-None : goal.returns-in-None
returns-in-None t c =
    let f = c.args.self.now in
    pick_second f.table.now f.text.now f.cells.now f.n c.args.x c.args.p _ _ _ _ c.look-y.ensures (c.look-y.ensures.kind ∙ (c.is_choice.ensures c.if-is_choice.true).1)
    _ c.in-None.ensures c.pick-in-None.ensures
