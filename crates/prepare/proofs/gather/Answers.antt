use native.Mathlib.Omega.{arith}
use Rattle.prepare.specs.laws.Loads.{clean, not-long, six-one, six-two, six-three, loads-refused, loads-accepted}
use Rattle.prepare.proofs.gather.Goals as goal

pub build-c-requires : goal.build-c-requires
build-c-requires c = not-long c.args.mode c.args.text.now
    (clean c.args.mode c.args.text.now c.requires.1)

pub returns-then-c-gt64 : goal.returns-then-c-gt64
returns-then-c-gt64 c = loads-refused c.refusal.ensures (six-one c.args.mode
    c.args.text.now _ _
    (clean c.args.mode c.args.text.now
    c.requires.1) c.build-c.result c.build-c.ensures
    c.requires.0 c.if-c-gt64.true)

pub returns-then-c-gt64-2 : goal.returns-then-c-gt64-2
returns-then-c-gt64-2 c = loads-refused c.refusal-then-c-gt64-2.ensures (six-two c.args.mode
    c.args.text.now _ _
    (clean c.args.mode c.args.text.now
    c.requires.1) c.build-c.result
    c.build-c.ensures c.requires.0
    (omega (arith, c.if-c-gt64.false)) c.if-c-gt64-2.true)

pub returns-then-expression_bound-c : goal.returns-then-expression_bound-c
returns-then-expression_bound-c c = loads-refused c.refusal-then-expression_bound-c.ensures (six-three c.args.mode
    c.args.text.now _ _
    (clean c.args.mode
    c.args.text.now
    c.requires.1)
    c.build-c.result c.build-c.ensures
    c.requires.0
    (omega (arith, c.if-c-gt64.false)) (omega (arith, c.if-c-gt64-2.false))
    (omega (arith, c.if-expression_bound-c.true, c.expression_bound.ensures)))

pub returns : goal.returns
returns c = loads-accepted (clean c.args.mode
    c.args.text.now
    c.requires.1) c.build-c.ensures
    c.requires.0 (omega (arith, c.if-c-gt64.false))
    (omega (arith, c.if-c-gt64-2.false)) (omega (arith, c.if-expression_bound-c.false, c.expression_bound.ensures))
