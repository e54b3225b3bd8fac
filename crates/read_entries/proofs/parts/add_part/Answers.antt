use Rattle.read_entries.proofs.Steps.{pushed-in, pushed-over}
use Rattle.read_entries.proofs.parts.add_part.Goals as goal

pub returns-then-c-lt-MOST : goal.returns-then-c-lt-MOST
returns-then-c-lt-MOST c = pushed-in _ _ _ _ _ _ _ c.expressions-c.ensures.0 c.if-c-lt-MOST.true c.store_expression.ensures c.put.ensures

pub returns-else-c-lt-MOST : goal.returns-else-c-lt-MOST
returns-else-c-lt-MOST c = pushed-over _ _ _ _ _ _ c.expressions-c.ensures.0 c.if-c-lt-MOST.false c.put-else-c-lt-MOST.ensures
