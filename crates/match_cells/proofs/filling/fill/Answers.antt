use native.Mathlib.Omega.{arith}
use Rattle.match_cells.specs.laws.Runs.{zeros, fills, knows_count}
use Rattle.match_cells.proofs.filling.fill.Goals as goal

pub rows_in-requires : goal.rows_in-requires
rows_in-requires c = (
  (
    c.symbols-n.ensures.0,
    omega (
      arith,
      c.symbols-n.ensures.0,
      c.requires.0.0,
    ),
    c.order_front-k.ensures.entries
        (zeros 64),
    c.requires.0.1,
  ),
  c.requires.1,
)

pub returns : goal.returns
returns c = (
  fills c.args.t.now
      c.args.s.now
      c.args.cells.now _ _ _
      c.symbols-n.result c.symbols-n.ensures.0 c.order_front-k.ensures
      c.rows_in.ensures.0,
  knows_count
      c.args.t.now
      c.args.s.now _ _ _ _
      c.symbols-n.ensures.0 c.rows_in.ensures.1,
)
