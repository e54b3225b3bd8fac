use mathlib.Core.List.{[]}
use Rattle.lake_rules.specs.Beginning.{marked}
use Rattle.lake_sets.specs.steps.Steps.{pair_at}
use Rattle.lake_sets.specs.laws.Begins.{rest-eps}
use mathlib.Core.Path.{sym}
use Prim.Native.Nat.{◌-◌}
use mathlib.Core.Bool.{true, false}
use Rattle.grammar_table.specs.Table.{part_by}
use Rattle.lake_sets.specs.laws.Begins.{rest}
use Rattle.lake_sets.proofs.begin_eps.Goals as goal

pub returns-in-0 : goal.returns-in-0
unfolding part_by
returns-in-0 c = rw c.in-0.is

pub returns-in-1 : goal.returns-in-1
unfolding part_by
returns-in-1 c = rw c.in-1.is c.flag_at.ensures

pub returns-then-flag_at : goal.returns-then-flag_at
unfolding part_by
returns-then-flag_at c = rw (c.in-2.is, ← c.flag_at-in-2.ensures, c.if-flag_at.true) c.flag_at-then-flag_at.ensures

pub returns-else-flag_at : goal.returns-else-flag_at
unfolding part_by
returns-else-flag_at c = rw (c.in-2.is, ← c.flag_at-in-2.ensures, c.if-flag_at.false)

pub returns-then-flag_at-2 : goal.returns-then-flag_at-2
unfolding part_by
returns-then-flag_at-2 c = rw (c.in-3.is, ← c.flag_at-in-3.ensures, c.if-flag_at-2.true)

pub returns-else-flag_at-2 : goal.returns-else-flag_at-2
unfolding part_by
returns-else-flag_at-2 c = rw (c.in-3.is, ← c.flag_at-in-3.ensures, c.if-flag_at-2.false) c.flag_at-else-flag_at-2.ensures

pub returns-in-6 : goal.returns-in-6
unfolding part_by
returns-in-6 c = rw c.in-6.is c.flag_at-in-6.ensures

pub returns-in_default : goal.returns-in_default
returns-in_default c = sym (rest-eps (marked c.args.marks.now) (pair_at [] c.args.eps.now) c.args.k.op
    c.args.k.left c.args.k.right c.in_default.in_default-own.rest.0.0.0.0.1 c.in_default.in_default-own.rest.0.0.0.1 c.in_default.in_default-own.rest.0.0.1
    c.in_default.in_default-own.rest.0.1 c.in_default.in_default-own.rest.1)
