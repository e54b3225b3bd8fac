use Rattle.std.proofs.Common.{ℕ, subst}
use Rattle.match_eval.specs.steps.Memory.{Spoken}
use Rattle.match_eval.proofs.laws.Words.{ready-said}
use Rattle.match_firsts.specs.steps.Taken.{taken_of}
use Rattle.match_firsts.proofs.decide_part.Goals as goal

pub returns-in-Some : goal.returns-in-Some
returns-in-Some c =
    ready-said c.args.t.now c.args.mem.now _ c.args.n c.args.b c.args.x (taken_of c.in-Some.v) c.requires.1 c.in-Some.ensures
    (subst (λ (v : ℕ). Spoken c.args.b c.args.x v c.args.mem.now c.say.new.mem) c.taken.ensures c.say.ensures)
