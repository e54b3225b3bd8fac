use Prim.Native.Nat.{ℕ, ◌+◌, ◌-◌}
use mathlib.Core.Path.{◌≡◌, ap, ◌∙◌}
use native.Mathlib.Omega.{arith}
use lib.ListN.{take, drop}
use Rattle.read_syntax.specs.Reading.{starts_with}
use Rattle.read_walks.specs.steps.Names.{lake_prefix}
use Rattle.read_walks.specs.laws.Offences.{prefix-points}
use Rattle.read_walks.proofs.lakelike.Goals as goal

pub returns : goal.returns
returns c =
    let x : c.args.from + c.args.n - c.args.from ≡ c.args.n = omega arith in
    c.starts_with.ensures.value ∙ prefix-points lake_prefix _ ∙ ap (λ (k : ℕ). starts_with lake_prefix (take k (drop c.args.from c.args.text.now))) x
