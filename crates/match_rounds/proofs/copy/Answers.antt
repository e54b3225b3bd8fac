use Rattle.std.proofs.Common.{ℕ, List, ◌+◌, ◌*◌, ◌≡◌, set, sym, subst, ⊎_elim}
use Rattle.match_eval.specs.steps.Memory.{entries_at, first_of, past_of, end_of}
use Rattle.match_rounds.specs.steps.Noted.{Noted}
use Rattle.match_rounds.specs.laws.Noted.{copied, noted-none}
use Rattle.match_rounds.proofs.copy.Goals as goal

pub returns : goal.returns
returns c = λ k p d.
    ⊎_elim
    (λ h.
    let e : c.write.new.mem ≡ set (set (set c.args.mem.now (entries_at + 3 * c.args.m) (first_of c.args.mem.now c.args.i)) (entries_at + 3 * c.args.m + 1)
    (past_of c.args.mem.now c.args.i)) (entries_at + 3 * c.args.m + 2) (end_of c.args.mem.now c.args.i) = rw (
      ← c.read-entry.ensures.says.0,
      ← c.read-entry.ensures.says.1,
      ←
          c.read-entry.ensures.says.2,
    ) h.1 in
    subst (λ (v : List ℕ). Noted k p d c.args.mem.now v) (sym e) (copied c.args.mem.now c.args.m c.args.i k p d h.0))
    (λ h. subst (λ (v : List ℕ). Noted k p d c.args.mem.now v) (sym h) (noted-none k p d c.args.mem.now))
    c.write.ensures
