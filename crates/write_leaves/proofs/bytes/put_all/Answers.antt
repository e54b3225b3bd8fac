use Rattle.std.proofs.Common.{ℕ, ◌+◌, sym, ap, ap₂, ◌∙◌, length, min, arith}
use Rattle.std.proofs.lemmas.List.{drop_more, drop_all}
use Rattle.write_leaves.specs.steps.Pen.{most, moved}
use Rattle.write_leaves.specs.laws.Pen.{put-one, less, done, counts-on, stops}
use Rattle.write_leaves.proofs.bytes.put_all.Goals as goal

pub returns-then-at-lt-MOST : goal.returns-then-at-lt-MOST
returns-then-at-lt-MOST c p e f =
    ap₂ (moved p) (sym e) (c.min.ensures ∙ ap (λ (k : ℕ). min most (k + length c.args.bytes.now)) (sym f))
    ∙ counts-on p c.args.bytes.now (omega (arith, ap length e, f, c.if-out-at.true)) (omega (arith, f, c.if-at-lt-MOST.true))

pub returns-else-at-lt-MOST : goal.returns-else-at-lt-MOST
returns-else-at-lt-MOST c p e f =
    ap₂ (moved p) (sym e) (sym f) ∙ stops p c.args.bytes.now (omega (arith, ap length e, f, c.if-out-at.true)) (omega (arith, f, c.if-at-lt-MOST.false))

pub loop-b-preserved : goal.loop-b-preserved
loop-b-preserved c p e f = less _ _ _ (c.loop-b.invariant p e f) (drop_more c.args.bytes.now c.loop-b.b-index 0 c.loop-b-test.true)
    (put-one (moved p c.loop-b.out c.loop-b.place) _ c.put-place.ensures.room c.put-place.ensures.place)

pub returns : goal.returns
returns c p e f = done _ _ (c.loop-b.invariant p e f) (drop_all c.loop-b.b-index c.args.bytes.now (omega (arith, c.loop-b-test.false)))
