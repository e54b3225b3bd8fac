use Rattle.read_entries.proofs.Steps.{bodied-in, bodied-out}
use Rattle.read_entries.proofs.parts.set_body.Goals as goal

pub returns-then-k-lt64 : goal.returns-then-k-lt64
returns-then-k-lt64 c = bodied-in _ _ _ _ c.if-k-lt64.true c.expressions.ensures.0 c.store_body.ensures

pub returns-else-k-lt64 : goal.returns-else-k-lt64
returns-else-k-lt64 c = bodied-out _ _ c.if-k-lt64.false
