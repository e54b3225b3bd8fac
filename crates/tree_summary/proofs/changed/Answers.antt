use Rattle.std.proofs.Common.{refl}
use Rattle.tree_summary.specs.Adding.{changed_by}
use Rattle.tree_summary.proofs.changed.Goals as goal

pub returns-in-Clear : goal.returns-in-Clear
unfolding changed_by
returns-in-Clear c = rw c.in-Clear.is refl

pub returns-then-old : goal.returns-then-old
unfolding changed_by
returns-then-old c = rw (c.in-Add.is, c.if-old.true) refl

pub returns-else-old : goal.returns-else-old
unfolding changed_by
returns-else-old c = rw (c.in-Add.is, c.if-old.false) refl
