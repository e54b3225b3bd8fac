use Rattle.std.proofs.Common.{rules, sym, ◌∙◌}
use Rattle.lake_step_two.proofs.laws.Skips.{symbol-yes}
use Rattle.lake_step_two.proofs.add_symbol.Goals as goal

pub returns-then-not-is_lake : goal.returns-then-not-is_lake
returns-then-not-is_lake c = (
  c.add.ensures.0,
  symbol-yes c.args.t.now c.args.s c.args.i c.args.o c.args.m c.args.out.now c.add.new.out c.add.result
      (sym c.member.ensures ∙ c.if-member.true) (sym c.is_lake.ensures ∙ search rules) c.add.ensures.1,
)
