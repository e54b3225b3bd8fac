use Rattle.std.proofs.Common.{ℕ, ◌-◌, ◌≡◌, sym, ap, ◌∙◌, arith}
use Rattle.read_entries.specs.steps.Leaves.{zeros}
use Rattle.read_entries.proofs.Steps.{zeros-at, zeros-none, store-whole, store-next, store-none}
use Rattle.read_entries.proofs.leaves.put_zeros.Goals as goal

pub loop-i-init : goal.loop-i-init
loop-i-init c = store-whole _ _ _ _ (ap (λ (x : ℕ). zeros x) (let e : c.args.n ≡ c.args.n - 0 = omega arith in e))

pub loop-i-preserved : goal.loop-i-preserved
loop-i-preserved c = c.loop-i.invariant ∙ store-next _ _ _ _ _ _ _ (zeros-at _ _ c.loop-i-test.true) c.put.ensures

pub returns : goal.returns
returns c = sym (c.loop-i.invariant ∙ store-none _ _ _ (zeros-none _ _ c.loop-i-test.false))
