use Rattle.std.proofs.Common.{◌≡◌, ◌+◌, ◌<◌, refl, ap, ◌∙◌, length, length-set, arith}
use Rattle.std.proofs.lemmas.List.{drop_more, drop_all}
use borrow.Author.Tests.{lt-leb}
use Rattle.write_leaves.specs.steps.Pen.{most, moved}
use Rattle.write_leaves.specs.laws.Pen.{put-one, less, done}
use Rattle.write_leaves.proofs.bytes.put_run.Goals as goal

pub loop-i-preserved : goal.loop-i-preserved
loop-i-preserved c =
    let k : c.args.at + c.loop-i.i < most = omega (arith, c.requires, c.loop-i-test.true) in (
      length-set c.loop-i.out (c.args.at + c.loop-i.i) _ ∙ c.loop-i.invariant.0,
      λ p e f. less _ _ _ (c.loop-i.invariant.1 p e f) (drop_more c.args.bytes.now c.loop-i.i 0 c.loop-i-test.true)
          (put-one (moved p c.loop-i.out (c.args.at + c.loop-i.i)) _ refl (rw (lt-leb most (c.args.at + c.loop-i.i) k) (omega arith))),
    )

pub returns : goal.returns
returns c p e f =
    let z : c.args.at + length c.args.bytes.now ≡ c.args.at + c.loop-i.i = omega (arith, c.loop-i-test.false, c.loop-i.auto.i-end) in
    ap (moved p c.loop-i.out) z ∙ done _ _ (c.loop-i.invariant.1 p e f) (drop_all c.loop-i.i c.args.bytes.now (omega (arith, c.loop-i-test.false)))
