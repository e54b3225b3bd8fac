use Rattle.std.proofs.Common.{ℕ, ◌≡◌, ◌<◌, ◌≤◌, ◌+◌, ◌-◌, ◌*◌, sym, ap, ◌∙◌, arith, ⊎_elim, get_or, subst, length}
use Rattle.base_facts.specs.laws.Numbers.{lt-or-ge}
use Rattle.tree_json.specs.Reading.{digits_at}
use Rattle.tree_read.specs.laws.Numbers.{most_by, digits-past, digits_low, digits-high, digits-done, digits_more, most-all, most-more}
use Rattle.tree_read.proofs.leaves.digits.Goals.{then-b-lt48-via-then-b-lt48, then-b-lt48-via-else-b-lt48+then-b-gt57}
use Rattle.tree_read.proofs.leaves.digits.Goals as goal

pub returns-then-b-lt48 : goal.returns-then-b-lt48
returns-then-b-lt48 c = elim c.then-b-lt48.branch [
  | then-b-lt48-via-then-b-lt48 w ↦ (
    digits_low c.args.json.now c.loop-i.v c.loop-i.i (5 - (c.loop-i.i - c.args.at)) w.if-b-lt48.true ∙ sym c.loop-i.invariant.1,
    omega (
      arith,
      most-all
          (5 - (c.loop-i.i - c.args.at)) c.loop-i.v c.loop-i.invariant.0,
    ),
  )
  | then-b-lt48-via-else-b-lt48+then-b-gt57 w ↦ (
    digits-high c.args.json.now c.loop-i.v c.loop-i.i (5 - (c.loop-i.i - c.args.at)) w.if-b-gt57.true ∙ sym c.loop-i.invariant.1,
    omega
        (arith, most-all (5 - (c.loop-i.i - c.args.at)) c.loop-i.v c.loop-i.invariant.0),
  )
]

pub loop-i-preserved : goal.loop-i-preserved
loop-i-preserved c =
    let more : 0 < (5 - (c.loop-i.i - c.args.at)) = omega (arith, c.min-i-end.ensures, c.saturating_add.ensures, c.loop-i.auto.i, c.loop-i-test.true) in
    let next : (5 - (c.loop-i.i - c.args.at)) - 1 ≡ 5 - (c.loop-i.i + 1 - c.args.at) = omega (arith, c.min-i-end.ensures, c.saturating_add.ensures, c.loop-i.auto.i) in
    let d : c.from.result ≡ get_or c.args.json.now c.loop-i.i 0 - 48 = c.from.ensures in (
      subst (λ (n : ℕ). 10 * c.loop-i.v + c.from.result ≤ most_by n) next
          (most-more (5 - (c.loop-i.i - c.args.at)) c.loop-i.v c.from.result more (omega arith) c.loop-i.invariant.0 (omega (arith, d, c.if-b-gt57.false))),
      c.loop-i.invariant.1
          ∙ digits_more c.args.json.now c.loop-i.v c.loop-i.i (5 - (c.loop-i.i - c.args.at)) more (omega (arith, c.if-b-lt48.false)) (omega (arith, c.if-b-gt57.false))
          ∙ ap (λ (n : ℕ). digits_at ((5 - (c.loop-i.i - c.args.at)) - 1) (10 * c.loop-i.v + n) c.args.json.now (c.loop-i.i + 1)) (sym d)
          ∙ ap (λ (n : ℕ). digits_at n (10 * c.loop-i.v + c.from.result) c.args.json.now (c.loop-i.i + 1)) next,
    )

pub returns : goal.returns
returns c = (
  ⊎_elim (λ (h : c.loop-i.i < length c.args.json.now). digits-done c.args.json.now c.loop-i.v c.loop-i.i (5 - (c.loop-i.i - c.args.at)) (omega
      (arith, h, c.min-i-end.ensures, c.saturating_add.ensures, c.loop-i.auto.i, c.loop-i-test.false))) (λ (h : length c.args.json.now ≤ c.loop-i.i). digits-past c.args.json.now c.loop-i.v
      c.loop-i.i (5 - (c.loop-i.i - c.args.at)) h)
      (lt-or-ge c.loop-i.i (length c.args.json.now))
      ∙ sym c.loop-i.invariant.1,
  omega (arith, most-all (5 - (c.loop-i.i - c.args.at)) c.loop-i.v c.loop-i.invariant.0),
)
