use Rattle.std.proofs.Common.{◌∙◌}
use Rattle.tree_read.specs.laws.Numbers.{number-value, number-place}
use Rattle.tree_read.proofs.leaves.number.Goals as goal

pub returns-in_err-place : goal.returns-in_err-place
returns-in_err-place c = rw c.from_residual.ensures (rw (← number-place c.args.json.now c.args.at c.digits-value.result c.digits-value.ensures.0) c.in_err-place.ensures)

pub returns : goal.returns
returns c = (
  number-value c.args.json.now c.args.at c.digits-value.result c.digits-value.ensures.0,
  c.in_ok-place.ensures ∙ number-place c.args.json.now c.args.at c.digits-value.result c.digits-value.ensures.0,
  c.digits-value.ensures.1,
)
