use Rattle.std.proofs.Common.{arith}
use Rattle.std.proofs.lemmas.List.{places}
use Rattle.match_cells.specs.laws.Preset.{copied}
use Rattle.match_cells.proofs.tasks.copy_row.Goals as goal

pub returns : goal.returns
returns c =
    copied c.args.plan.now c.args.o c.args.i c.args.n _ c.args.cells.now c.copy_from_slice.new.self (omega arith) c.requires.2
    (grind (arith, places, c.copy_from_slice.ensures.len, c.requires)) (λ r l. grind (arith, places, c.copy_from_slice.ensures.after, l, c.requires))
