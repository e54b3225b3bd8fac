use Rattle.std.proofs.Common.{◌≡◌, rules, arith}
use Rattle.write_leaves.specs.steps.Pen.{after}
use Rattle.write_leaves.specs.laws.Pen.{same_name}
use Rattle.write_text.specs.laws.Pages.{too_long, written}
use Rattle.write_text.proofs.texts.put.Goals as goal

pub returns-then-out-count : goal.returns-then-out-count
returns-then-out-count g c w h = too_long w _ (omega arith) c.new-count.result c.new-count.ensures.1 (h _ _ c.text.ensures) c.if-out-count.true

pub returns : goal.returns
returns g c w h =
    let e : c.text-2.new.arg2 ≡ after c.new-pen.result w = h _ _ c.text-2.ensures in
    let n : c.text-2.new.arg2.out.ghost_name ≡ c.new-pen.result.out.ghost_name = same_name c.new-pen.result w c.new-pen.ensures.1 e in
    written w _ (omega arith) c.new-count.result c.new-count.ensures.1 (h _ _ c.text.ensures) c.new-pen.result c.if-out-count.false (search rules) c.new-pen.ensures.1 e (search rules)
