use native.Mathlib.Omega.{arith}
use Rattle.grammar_table.specs.Trees.{tree_of}
use Rattle.match_eval.proofs.laws.Within.{ev-within}
use Rattle.match_walks.specs.laws.Walks.{guard-takes}
use Rattle.match_walks.proofs.Filled.past.Goals as goal

pub returns-then-look-ge-AHEAD : goal.returns-then-look-ge-AHEAD
returns-then-look-ge-AHEAD c =
    let f = c.args.self.now in
    omega (
      arith,
      guard-takes f.table.now f.text.now f.cells.now f.n 0 c.args.p c.requires.1 c.args.x _ _ _ _ c.requires.0 c.requires.2 c.look.ensures c.if-look-ge-AHEAD.true,
    )

pub overflow_add-result : goal.overflow_add-result
overflow_add-result c =
    let f = c.args.self.now in
    omega (arith, ev-within f.text.now f.cells.now f.n (tree_of f.table.now c.args.x) c.args.p c.requires.1, c.round.ensures, f.short, c.requires.1)
