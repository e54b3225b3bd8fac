use mathlib.Core.Path.{sym, ◌∙◌}
use Rattle.grammar_table.specs.Table.{node_by}
use Rattle.match_eval.specs.Eval.{ev}
use Rattle.match_eval.proofs.laws.Evaluated.{zero-tree, node-ev}
use Rattle.match_eval.proofs.part_at.Goals as goal

pub returns-then-x-eq0 : goal.returns-then-x-eq0
returns-then-x-eq0 c = c.any_at.ensures ∙ zero-tree c.args.s.now c.args.cells.now
    c.args.t.now c.args.n c.args.x
    c.args.p c.if-x-eq0.true

pub returns-then-op-eq-SYMBOL : goal.returns-then-op-eq-SYMBOL
unfolding ev node_by
returns-then-op-eq-SYMBOL c = c.cell_at.ensures ∙ node-ev c.args.s.now
    c.args.cells.now
    c.args.t.now c.args.n
    c.args.x c.args.p 1
    c.left-l.result c.if-x-eq0.false (sym
    c.if-op-eq-SYMBOL.true ∙ c.op.ensures.0) c.left-l.ensures.0
