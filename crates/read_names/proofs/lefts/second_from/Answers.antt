use Rattle.read_names.specs.steps.Lefts.{second4}
use Rattle.read_names.specs.laws.Sweeps.{upto_all, swept-low, second-says}
use Rattle.read_names.proofs.lefts.second_from.Goals as goal

pub returns-then-is_none : goal.returns-then-is_none
returns-then-is_none c = second-says c.args.mode c.args.text.now c.in-Some.place c.place_of.result
    (upto_all c.args.mode c.args.text.now (second4 c.args.mode c.args.text.now) c.loop.invariant.2 c.gather-range.result.high c.in-Some.place
    (swept-low c.args.mode c.args.text.now (second4 c.args.mode c.args.text.now) c.gather-range.result.low c.loop.low c.gather-range.result.high c.loop.limit c.in-Some.place
    c.gather-range.ensures.above c.in-Some.ensures) c.if-is_none.ensures) c.place_of.ensures
