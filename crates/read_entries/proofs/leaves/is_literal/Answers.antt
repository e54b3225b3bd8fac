use Rattle.std.proofs.Common.{ℕ, ◌-◌, ◌≡◌, sym, ap, ◌∙◌, arith}
use Rattle.read_tokens.specs.laws.Widths.{width-inside}
use Rattle.read_entries.specs.steps.Leaves.{spelled}
use Rattle.read_entries.proofs.Steps.{spelled_at, same_whole, same-on, same-no, same-rest}
use Rattle.read_entries.proofs.leaves.is_literal.Goals as goal

pub loop-k-init : goal.loop-k-init
loop-k-init c = (
  c.requires.0.0,
  same_whole _ _ _ _ _ (ap (λ (x : ℕ). spelled x (256 - c.args.n) c.args.text.now c.args.from) (let e : c.args.n ≡ c.args.n - 0 = omega arith in e)),
)

pub returns-then-word-from : goal.returns-then-word-from
returns-then-word-from c = sym (c.loop-k.invariant.1 ∙ same-no _ _ _ _ _ _ _ _ (omega (arith, c.requires.0.2, c.loop-k-test.true))
    (spelled_at _ _ _ _ _ _ _ c.loop-k-test.true (c.from.ensures ∙ c.char_here-c.ensures.0)
    (c.char_here-c.ensures.1)) c.word.ensures.0 c.if-word-from.true)

pub overflow_add-p : goal.overflow_add-p
overflow_add-p c = omega (
  arith,
  c.char_here-c.ensures.1,
  width-inside c.args.text.now c.loop-k.p c.loop-k.invariant.0,
  c.requires.0.1,
)

pub loop-k-preserved : goal.loop-k-preserved
loop-k-preserved c = (
  omega (arith, c.char_here-c.ensures.1, width-inside c.args.text.now c.loop-k.p c.loop-k.invariant.0),
  c.loop-k.invariant.1 ∙ same-on _ _ _ _ _ _ _ _ (omega (arith, c.requires.0.2, c.loop-k-test.true))
      (spelled_at _ _ _ _ _ _ _ c.loop-k-test.true (c.from.ensures ∙ c.char_here-c.ensures.0)
      (c.char_here-c.ensures.1)) c.word.ensures.0 c.if-word-from.false,
)

pub returns : goal.returns
returns c = c.are_zeros.ensures ∙ sym (c.loop-k.invariant.1
    ∙ same-rest c.args.t.now c.args.at c.args.n c.loop-k.k c.args.text.now c.loop-k.p (omega (arith, c.loop-k.auto.k-end, c.loop-k-test.false)))
