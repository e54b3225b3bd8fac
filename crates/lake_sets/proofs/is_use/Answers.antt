use Rattle.std.proofs.Common.{ap, ap₂, ◌∙◌, ne_eqb}
use Prim.Native.Nat.{ℕ, ◌-◌}
use mathlib.Core.Bool.{true, false}
use Rattle.lake_sets.specs.laws.Alts.{use-not, use-is, part-is}
use Rattle.grammar_table.specs.Table.{part_by, left_of, right_of}
use Rattle.lake_rules.specs.Analysis.{is_use}
use Rattle.lake_sets.proofs.is_use.Goals as goal

pub returns-else-op-eq-SYMBOL : goal.returns-else-op-eq-SYMBOL
returns-else-op-eq-SYMBOL c = ne_eqb c.op.result 1 c.if-op-eq-SYMBOL.false ∙ use-not c.op.result (left_of c.args.t.now c.args.e)
    (right_of c.args.t.now c.args.e) c.args.r c.if-op-eq-SYMBOL.false ∙ ap
    (λ (k : ℕ). is_use (part_by k (left_of c.args.t.now c.args.e)
    (right_of c.args.t.now c.args.e)) c.args.r) c.op.ensures.0 ∙ part-is
    c.args.t.now c.args.e c.args.r

pub returns-then-op-eq-SYMBOL : goal.returns-then-op-eq-SYMBOL
returns-then-op-eq-SYMBOL c = use-is c.op.result c.left.result (right_of c.args.t.now c.args.e)
    c.args.r c.if-op-eq-SYMBOL.true ∙ ap₂ (λ (k l : ℕ). is_use
    (part_by k l (right_of c.args.t.now c.args.e)) c.args.r)
    c.op.ensures.0 c.left.ensures.0 ∙ part-is c.args.t.now c.args.e
    c.args.r
