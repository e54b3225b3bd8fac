use Rattle.std.proofs.Common.{sym, subst}
use Rattle.grammar_table.specs.Table.{table_words}
use Rattle.read_order.specs.steps.Order.{Fits}
use Rattle.read_order.specs.laws.Order.{fits-new}
use Rattle.read_names.specs.steps.Lefts.{second4, lacks5}
use Rattle.read_names.specs.laws.Sweeps.{upto-none, upto_all, swept-low, second_none, unruled-says}
use Rattle.read_names.proofs.lefts.refused.Goals as goal

pub loop-init : goal.loop-init
loop-init c = (
  subst (Fits c.args.text.now) (sym c.renew.ensures) (fits-new c.args.text.now table_words),
  tt,
  upto-none c.args.mode c.args.text.now (lacks5 c.args.mode c.args.text.now),
  upto-none c.args.mode c.args.text.now (second4 c.args.mode c.args.text.now),
)

pub returns-then-is_none : goal.returns-then-is_none
returns-then-is_none c = record {
  four = second_none c.args.mode c.args.text.now
      (upto_all c.args.mode c.args.text.now (second4 c.args.mode c.args.text.now) c.loop.invariant.3 c.gather-range.result.high _
      (swept-low c.args.mode c.args.text.now (second4 c.args.mode c.args.text.now) c.gather-range.result.low c.loop.low c.gather-range.result.high _ _
      c.gather-range.ensures.above c.in-Some.ensures.1) c.if-is_none.ensures);
  five = λ _. unruled-says c.args.mode c.args.text.now c.in-Some.place c.place_of.result
      (upto_all c.args.mode c.args.text.now (lacks5 c.args.mode c.args.text.now) c.loop.invariant.2 c.gather-range.result.high c.in-Some.place
      (swept-low c.args.mode c.args.text.now (lacks5 c.args.mode c.args.text.now) c.gather-range.result.low c.loop.low c.gather-range.result.high c.loop.limit c.in-Some.place
      c.gather-range.ensures.above c.in-Some.ensures.0) c.if-is_none.ensures) c.place_of.ensures;
}
