use Rattle.std.proofs.Common.{arith}
use Rattle.replay_lines.specs.laws.Fields.{at-space, no-space, no_more}
use Rattle.replay_lines.proofs.until.Goals as goal

pub returns-then-s-i-eq32 : goal.returns-then-s-i-eq32
returns-then-s-i-eq32 c = omega (arith, c.loop-i.invariant, at-space c.args.s.now c.loop-i.i c.loop-i-test.true c.if-s-i-eq32.true)

pub loop-i-preserved : goal.loop-i-preserved
loop-i-preserved c = omega (arith, c.loop-i.invariant, no-space c.args.s.now c.loop-i.i c.loop-i-test.true c.if-s-i-eq32.false)

pub returns : goal.returns
returns c = grind (arith, c.max.ensures, c.loop-i.invariant, no_more c.args.s.now c.loop-i.i (omega (arith, c.loop-i-test.false)), no_more c.args.s.now c.args.at)
