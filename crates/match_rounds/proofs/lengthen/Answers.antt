use Rattle.std.proofs.Common.{ℕ, List, ◌+◌, ◌*◌, set, sym, ap, ◌∙◌, subst, arith}
use Rattle.match_rounds.specs.steps.Noted.{Noted}
use Rattle.match_rounds.specs.laws.Noted.{lengthened}
use Rattle.match_rounds.proofs.lengthen.Goals as goal

pub returns : goal.returns
returns c = λ d e.
    subst (λ (v : List ℕ). Noted c.args.k c.args.p d c.args.mem.now v)
    (sym (c.put.ensures ∙ ap (λ (j : ℕ). set c.args.mem.now j (c.args.k * 65536 + c.args.p)) c.entry_at.ensures))
    (lengthened c.args.mem.now c.args.i c.args.k c.args.p d (omega arith) c.requires.1 e)
