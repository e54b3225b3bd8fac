use Rattle.std.proofs.Common.{ℕ, List, sym, subst, ⊎_elim, arith}
use Rattle.match_rounds.specs.steps.Noted.{Noted}
use Rattle.match_rounds.specs.laws.Noted.{noted, noted-none}
use Rattle.match_rounds.proofs.note.Goals as goal

pub returns : goal.returns
returns c =
    ⊎_elim
    (λ h. subst (λ (v : List ℕ). Noted c.args.k c.args.p c.args.c c.args.mem.now v) (sym h.1)
    (noted c.args.mem.now c.args.i c.args.k c.args.p c.args.c (omega arith) h.0))
    (λ h. subst (λ (v : List ℕ). Noted c.args.k c.args.p c.args.c c.args.mem.now v) (sym h) (noted-none c.args.k c.args.p c.args.c c.args.mem.now))
    c.write.ensures
