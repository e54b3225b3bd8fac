use Rattle.std.proofs.Common.{arith}
use Rattle.grammar_table.specs.Trees.{tree_of}
use Rattle.write_leaves.specs.steps.Printed.{called, toned}
use Rattle.write_leaves.specs.laws.Pen.{then, said}
use Rattle.write_exp.specs.laws.Trees.{zero-text, leaf-text, sym-text, seq-text, alt-text, opt-text, star-text, plus-text, ahead-text, never-text, in_pair, is-bare}
use Rattle.write_exp.proofs.+exp_wrapped.Goals as goal

pub exp-returns-then-x-eq0 : goal.exp-returns-then-x-eq0
exp-returns-then-x-eq0 t c = said _ (zero-text c.args.t.now (called c.args.plain c.args.t.now) c.args.x c.if-x-eq0.true) c.emit.ensures

pub exp-returns-in-0 : goal.exp-returns-in-0
exp-returns-in-0 t c = said _ (leaf-text c.args.t.now (called c.args.plain c.args.t.now) c.args.x c.op.result c.left-l.result c.if-x-eq0.false c.op.ensures.0 c.left-l.ensures.0 c.in-0.is)
    c.leaf.ensures

pub exp-returns-in-1 : goal.exp-returns-in-1
exp-returns-in-1 t c = said _ (sym-text c.args.t.now (called c.args.plain c.args.t.now) c.args.x c.op.result c.left-l.result c.if-x-eq0.false c.op.ensures.0 c.left-l.ensures.0 c.in-1.is)
    c.symbol.ensures

pub exp-returns-in-2 : goal.exp-returns-in-2
exp-returns-in-2 t c = said _ (seq-text c.args.t.now (called c.args.plain c.args.t.now) c.args.x c.op.result c.left-l.result c.if-x-eq0.false c.op.ensures.0 c.left-l.ensures.0
    c.part-y.result c.part-y.ensures c.right.result c.part-z.result c.right.ensures.0 c.part-z.ensures c.in-2.is)
    (then _ _ _ c.wrapped.ensures (then _ _ _ c.emit-in-2.ensures c.wrapped-in-2.ensures))

pub exp-returns-in-3 : goal.exp-returns-in-3
exp-returns-in-3 t c = said _ (alt-text c.args.t.now (called c.args.plain c.args.t.now) c.args.x c.op.result c.left-l.result c.if-x-eq0.false c.op.ensures.0 c.left-l.ensures.0
    c.part-y.result c.part-y.ensures c.right-in-3.result c.part-z-in-3.result c.right-in-3.ensures.0 c.part-z-in-3.ensures c.in-3.is)
    (then _ _ _ c.wrapped-in-3.ensures (then _ _ _ c.emit_all.ensures c.wrapped-in-3-2.ensures))

pub exp-returns-in-4 : goal.exp-returns-in-4
exp-returns-in-4 t c = said _ (opt-text c.args.t.now (called c.args.plain c.args.t.now) c.args.x c.op.result c.left-l.result c.if-x-eq0.false c.op.ensures.0 c.left-l.ensures.0
    c.part-y.result c.part-y.ensures c.in-4.is) (then _ _ _ c.wrapped-in-4.ensures c.emit-in-4.ensures)

pub exp-returns-in-5 : goal.exp-returns-in-5
exp-returns-in-5 t c = said _ (star-text c.args.t.now (called c.args.plain c.args.t.now) c.args.x c.op.result c.left-l.result c.if-x-eq0.false c.op.ensures.0 c.left-l.ensures.0
    c.part-y.result c.part-y.ensures c.in-5.is) (then _ _ _ c.wrapped-in-5.ensures c.emit-in-5.ensures)

pub exp-returns-in-6 : goal.exp-returns-in-6
exp-returns-in-6 t c = said _ (plus-text c.args.t.now (called c.args.plain c.args.t.now) c.args.x c.op.result c.left-l.result c.if-x-eq0.false c.op.ensures.0 c.left-l.ensures.0
    c.part-y.result c.part-y.ensures c.in-6.is) (then _ _ _ c.wrapped-in-6.ensures c.emit-in-6.ensures)

pub exp-returns-in-7 : goal.exp-returns-in-7
exp-returns-in-7 t c = said _ (ahead-text c.args.t.now (called c.args.plain c.args.t.now) c.args.x c.op.result c.left-l.result c.if-x-eq0.false c.op.ensures.0 c.left-l.ensures.0
    c.part-y.result c.part-y.ensures c.in-7.is) (then _ _ _ c.emit-in-7.ensures c.wrapped-in-7.ensures)

pub exp-returns-in_default : goal.exp-returns-in_default
exp-returns-in_default t c = said _ (never-text c.args.t.now (called c.args.plain c.args.t.now) c.args.x c.op.result c.left-l.result c.if-x-eq0.false c.op.ensures.0 c.left-l.ensures.0
    c.part-y.result c.part-y.ensures (λ e. omega (arith, e)) (λ e. omega (arith, e)) (λ e. omega (arith, e)) (λ e. omega (arith, e)) (λ e. omega (arith, e)) (λ e. omega (arith, e))
    (λ e. omega (arith, e)) (λ e. omega (arith, e)))
    (then _ _ _ c.emit-in_default.ensures c.wrapped-in_default.ensures)

pub wrapped-returns-then-level_of-k : goal.wrapped-returns-then-level_of-k
wrapped-returns-then-level_of-k t c = said _ (in_pair c.args.k (toned (called c.args.plain c.args.t.now) (tree_of c.args.t.now c.args.x))
    c.level_of.result (c.level_of.ensures (called c.args.plain c.args.t.now)) c.if-level_of-k.true)
    (then _ _ _ c.emit.ensures (then _ _ _ c.exp.ensures c.emit-then-level_of-k.ensures))

pub wrapped-returns-else-level_of-k : goal.wrapped-returns-else-level_of-k
wrapped-returns-else-level_of-k t c = said _ (is-bare c.args.k (toned (called c.args.plain c.args.t.now) (tree_of c.args.t.now c.args.x))
    c.level_of.result (c.level_of.ensures (called c.args.plain c.args.t.now)) c.if-level_of-k.false)
    c.exp-else-level_of-k.ensures
