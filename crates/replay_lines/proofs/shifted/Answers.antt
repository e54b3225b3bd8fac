use Rattle.std.proofs.Common.{◌∙◌, arith}
use Rattle.replay_lines.specs.laws.Fields.{shift-low, shift-high, shift_over, shift_sum}
use Rattle.replay_lines.proofs.shifted.Goals as goal

pub returns-in_err-checked_mul-in-48-to-57 : goal.returns-in_err-checked_mul-in-48-to-57
returns-in_err-checked_mul-in-48-to-57 c =
    c.from_residual.ensures ∙ shift_over c.args.v c.args.b (omega arith) (omega arith) c.in_err-checked_mul-in-48-to-57.ensures

pub returns-in_ok-checked_mul-in-48-to-57 : goal.returns-in_ok-checked_mul-in-48-to-57
returns-in_ok-checked_mul-in-48-to-57 c =
    shift_sum c.args.v c.args.b c.checked_add.result c.in_ok-checked_mul-in-48-to-57.field-0 c.from.result (omega arith) (omega arith)
    c.in_ok-checked_mul-in-48-to-57.ensures.1 c.from.ensures c.checked_add.ensures

pub returns-in_default : goal.returns-in_default
returns-in_default c = shift-low c.args.v c.args.b (omega arith)

pub returns-in_default-2 : goal.returns-in_default-2
returns-in_default-2 c = shift-high c.args.v c.args.b (omega arith) (omega arith)
