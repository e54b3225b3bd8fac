use native.Mathlib.Omega.{arith}
use Rattle.match_eval.proofs.laws.Memory.{knows-from}
use Rattle.match_walks.proofs.Filled.part_at.Goals as goal

pub part_at-requires : goal.part_at-requires
part_at-requires c =
    let f = c.args.self.now in
    (omega (arith, f.few, f.short, c.requires), knows-from f.table.now f.text.now f.cells.now f.mem.now f.n 0 0 0 c.args.p (omega arith) (omega arith) f.known)
