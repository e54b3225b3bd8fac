use Rattle.std.proofs.Common.{arith, ◌≡◌, ap, ℕ, ◌+◌}
use Rattle.lake_analysis.specs.laws.Skip.{room}
use Rattle.lake_analysis.proofs.Analysis.note.Goals as goal

pub overflow_add-result : goal.overflow_add-result
overflow_add-result c = omega (arith, c.bit.ensures c.requires.1, room c.args.w c.args.n c.requires.2 c.requires.1)

pub returns-then-stuck : goal.returns-then-stuck
returns-then-stuck c = rw (← c.stuck.ensures, c.if-stuck.true) (ap (λ (b : ℕ). c.args.w + b) (c.bit.ensures c.requires.1))

pub returns-else-stuck : goal.returns-else-stuck
returns-else-stuck c = rw (← c.stuck.ensures, c.if-stuck.false) (let q : c.args.w ≡ c.args.w + 0 = omega arith in q)
