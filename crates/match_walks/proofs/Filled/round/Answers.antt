use native.Mathlib.Omega.{arith}
use Rattle.match_eval.proofs.laws.Memory.{knows-from}
use Rattle.match_walks.proofs.Filled.round.Goals as goal

pub round-requires : goal.round-requires
round-requires c =
    let f = c.args.self.now in
    (omega (arith, f.few, f.short, c.requires), knows-from f.table.now f.text.now f.cells.now f.mem.now f.n 0 0 0 c.args.p (omega arith) (omega arith) f.known)
