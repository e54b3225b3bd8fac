use Rattle.match_rounds.specs.laws.Noted.{noted-both}
use Rattle.match_rounds.proofs.remember.Goals as goal

pub returns : goal.returns
returns c = noted-both c.args.k
    c.args.p
    c.args.c
    c.args.mem.now _ _ (noted-both
    c.args.k
    c.args.p
    c.args.c
    c.args.mem.now _ _
    c.note.ensures c.note-2.ensures)
    c.run_on.ensures
