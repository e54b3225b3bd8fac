use Rattle.std.proofs.Common.{ℕ, ◌-◌, sym, ap, ◌∙◌, arith, eqb-true}
use Rattle.grammar_table.specs.Trees.{tree_of, below}
use Rattle.match_keys.specs.laws.Keys.{trees-same}
use Rattle.match_keys.proofs.+same.Goals as goal

pub returns-in-0 : goal.returns-in-0
returns-in-0 t c = λ e.
    trees-same c.args.t.now c.args.x c.args.y c.op-op.result c.op.result c.left-l.result c.left-m.result c.if-x-eq0.false c.if-y-eq0.false
    c.op-op.ensures.0 c.op.ensures.0 (omega arith) c.left-l.ensures.0 c.left-m.ensures.0
    (λ h. eqb-true c.left-l.result c.left-m.result e) (λ h. absurd (omega (arith, h))) (λ h g. absurd (omega (arith, h)))

pub returns-then-same : goal.returns-then-same
returns-then-same t c = λ e.
    trees-same c.args.t.now c.args.x c.args.y c.op-op.result c.op.result c.left-l.result c.left-m.result c.if-x-eq0.false c.if-y-eq0.false
    c.op-op.ensures.0 c.op.ensures.0 (omega arith) c.left-l.ensures.0 c.left-m.ensures.0
    (λ h. absurd (omega (arith, h)))
    (λ h. ap (tree_of c.args.t.now) (sym c.part.ensures) ∙ c.same.ensures c.if-same.true ∙ ap (tree_of c.args.t.now) c.part-in-2.ensures)
    (λ h g. ap (tree_of c.args.t.now) (sym (c.part-then-same.ensures ∙ ap (λ (j : ℕ). below j (c.args.x - 1)) c.right-r.ensures.0)) ∙ c.same-then-same.ensures e
    ∙ ap (tree_of c.args.t.now) (c.part-then-same-2.ensures ∙ ap (λ (j : ℕ). below j (c.args.y - 1)) c.right-u.ensures.0))

pub returns-in_default : goal.returns-in_default
returns-in_default t c = λ e.
    trees-same c.args.t.now c.args.x c.args.y c.op-op.result c.op.result c.left-l.result c.left-m.result c.if-x-eq0.false c.if-y-eq0.false
    c.op-op.ensures.0 c.op.ensures.0 (omega arith) c.left-l.ensures.0 c.left-m.ensures.0
    (λ h. absurd (omega (arith, h)))
    (λ h. ap (tree_of c.args.t.now) (sym c.part-in_default.ensures) ∙ c.same-in_default.ensures e ∙ ap (tree_of c.args.t.now) c.part-in_default-2.ensures)
    (λ h g. absurd (omega (arith, h, g)))
