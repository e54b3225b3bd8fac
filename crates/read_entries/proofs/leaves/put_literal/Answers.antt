use Rattle.std.proofs.Common.{ℕ, ◌-◌, ◌≡◌, sym, ap, ◌∙◌, arith}
use Rattle.read_tokens.specs.laws.Widths.{width-inside}
use Rattle.read_entries.specs.steps.Leaves.{spelled}
use Rattle.read_entries.proofs.Steps.{spelled_at, store-whole, store-next, store-rest}
use Rattle.read_entries.proofs.leaves.put_literal.Goals as goal

pub loop-i-init : goal.loop-i-init
loop-i-init c = (
  c.requires.0.0,
  store-whole _ _ _ _ (ap (λ (x : ℕ). spelled x (256 - c.args.n) c.args.text.now c.args.from) (let e : c.args.n ≡ c.args.n - 0 = omega arith in e)),
)

pub overflow_add-p : goal.overflow_add-p
overflow_add-p c = omega (
  arith,
  c.char_here-c.ensures.1,
  width-inside c.args.text.now c.loop-i.p c.loop-i.invariant.0,
  c.requires.0.1,
)

pub loop-i-preserved : goal.loop-i-preserved
loop-i-preserved c = (
  omega (arith, c.char_here-c.ensures.1, width-inside c.args.text.now c.loop-i.p c.loop-i.invariant.0),
  c.loop-i.invariant.1 ∙ store-next _ _ _ _ _ _ _
      (spelled_at _ _ _ _ _ _ _ c.loop-i-test.true (c.from.ensures ∙ c.char_here-c.ensures.0)
      (c.char_here-c.ensures.1)) c.put.ensures,
)

pub returns : goal.returns
returns c = c.put_zeros.ensures ∙ sym (c.loop-i.invariant.1
    ∙ store-rest c.loop-i.t c.args.at c.args.n c.loop-i.i c.args.text.now c.loop-i.p (omega (arith, c.loop-i.auto.i-end, c.loop-i-test.false)))
