use Rattle.lake_sets.proofs.Edges.hand_on.Goals as goal

pub returns-then-flag_at : goal.returns-then-flag_at
returns-then-flag_at c = rw (← c.flag_at.ensures, c.if-flag_at.true) c.add_two.ensures

pub returns-else-flag_at : goal.returns-else-flag_at
returns-else-flag_at c = rw (← c.flag_at.ensures, c.if-flag_at.false) c.add.ensures
