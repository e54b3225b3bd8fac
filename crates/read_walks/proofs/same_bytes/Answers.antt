use Prim.Native.Nat.{ℕ, ◌+◌, ◌-◌}
use mathlib.Core.Path.{◌≡◌, ap, ◌∙◌}
use native.Mathlib.Omega.{arith}
use lib.ListN.{take, drop}
use Rattle.grammar.specs.Same.{same_bytes}
use Rattle.read_walks.specs.steps.Names.{bytes_at}
use Rattle.read_walks.specs.laws.Names.{same-points}
use Rattle.read_walks.proofs.same_bytes.Goals as goal

pub returns : goal.returns
returns c =
    let x : c.args.a + c.args.n - c.args.a ≡ c.args.n = omega arith in
    let y : c.args.b + c.args.n - c.args.b ≡ c.args.n = omega arith in
    c.eq.ensures
    ∙ same-points _ _
    ∙ ap (λ (k : ℕ). same_bytes (take k (drop c.args.a c.args.text.now)) (take (c.args.b + c.args.n - c.args.b) (drop c.args.b c.args.text.now))) x
    ∙ ap (λ (k : ℕ). same_bytes (bytes_at c.args.text.now c.args.a c.args.n) (take k (drop c.args.b c.args.text.now))) y
