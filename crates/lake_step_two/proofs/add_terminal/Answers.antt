use Rattle.std.proofs.Common.{arith, sym, ◌∙◌, []}
use Rattle.lake_step_two.proofs.laws.Skips.{terminal-not, terminal-yes}
use Rattle.lake_step_two.proofs.add_terminal.Goals as goal

pub returns-then-member : goal.returns-then-member
returns-then-member c = (
  c.add.ensures.0,
  terminal-yes [] c.args.s c.args.i c.args.o c.args.m c.args.out.now c.add.new.out c.add.result (sym c.member.ensures ∙ c.if-member.true) c.add.ensures.1,
)

pub returns-else-member : goal.returns-else-member
returns-else-member c = (
  omega arith,
  terminal-not [] c.args.s c.args.i c.args.o c.args.m c.args.out.now (sym c.member.ensures ∙ c.if-member.false),
)
