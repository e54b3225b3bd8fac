use Rattle.std.proofs.Common.{ℕ, Option, Some, IfSome, ◌+◌, ◌-◌, ◌≡◌, subst, arith, rules}
use Rattle.match_eval.specs.steps.Memory.{About, end_of}
use Rattle.match_rounds.proofs.run_on.Goals as goal

pub returns-then-eq : goal.returns-then-eq
returns-then-eq c =
    let e : c.says.result ≡ Some (c.args.c - 1) = search rules in
    let h = subst (λ (o : Option ℕ). IfSome o (λ d. About c.args.mem.now (4096 + c.args.k) c.args.k (c.args.p + 1)
    × (end_of c.args.mem.now (4096 + c.args.k) ≡ c.args.p + 1 + d))) e c.says.ensures in
    c.lengthen.ensures c.args.c (omega (arith, h.1))
