use Rattle.std.proofs.Common.{sym, ap, ◌∙◌, arith}
use Rattle.write_exp.specs.laws.Trees.{level_by, kind-level, zero-level, tight, suffixes, prefixes}
use Rattle.write_exp.proofs.level_of.Goals as goal

pub returns-then-x-eq0 : goal.returns-then-x-eq0
returns-then-x-eq0 c = λ f. zero-level c.args.t.now f c.args.x c.if-x-eq0.true

pub returns-in-0 : goal.returns-in-0
returns-in-0 c = λ f. tight c.op.result (omega arith) ∙ kind-level c.args.t.now f c.args.x c.op.result c.if-x-eq0.false c.op.ensures.0

pub returns-in-2 : goal.returns-in-2
returns-in-2 c = λ f. sym (ap level_by c.in-2.is) ∙ kind-level c.args.t.now f c.args.x c.op.result c.if-x-eq0.false c.op.ensures.0

pub returns-in-3 : goal.returns-in-3
returns-in-3 c = λ f. sym (ap level_by c.in-3.is) ∙ kind-level c.args.t.now f c.args.x c.op.result c.if-x-eq0.false c.op.ensures.0

pub returns-in-4 : goal.returns-in-4
returns-in-4 c = λ f. suffixes c.op.result (λ e. omega (arith, e)) (λ e. omega (arith, e)) (omega arith) (omega arith) ∙ kind-level c.args.t.now f c.args.x c.op.result c.if-x-eq0.false c.op.ensures.0

pub returns-in_default : goal.returns-in_default
returns-in_default c = λ f. prefixes c.op.result (omega arith) ∙ kind-level c.args.t.now f c.args.x c.op.result c.if-x-eq0.false c.op.ensures.0
