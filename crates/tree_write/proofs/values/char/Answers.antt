use Rattle.std.proofs.Common.{sym, ap, arith}
use Rattle.tree_json.specs.Json.{char_json}
use Rattle.write_leaves.specs.laws.Pen.{said}
use Rattle.tree_write.specs.laws.Values.{control, printable, above}
use Rattle.tree_write.proofs.values.char.Goals.{in_default-via-then-c-lt32, in_default-via-else-c-lt32+else-c-lt127}
use Rattle.tree_write.proofs.values.char.Goals as goal

pub returns-in-34 : goal.returns-in-34
unfolding char_json
returns-in-34 c = said _ (ap char_json (sym c.in-34.is)) c.emit_all.ensures

pub returns-in-92 : goal.returns-in-92
unfolding char_json
returns-in-92 c = said _ (ap char_json (sym c.in-92.is)) c.emit_all-in-92.ensures

pub returns-in-32-to-126 : goal.returns-in-32-to-126
returns-in-32-to-126 c = said _ (printable c.args.c (λ e. omega (arith, e)) (λ e. omega (arith, e)) (omega arith) (omega arith)) c.emit.ensures

pub returns-in_default : goal.returns-in_default
returns-in_default c = elim c.in_default.branch [
  | in_default-via-then-c-lt32 w ↦ said _ (control c.args.c (λ e. omega (arith, e)) (λ e. omega (arith, e)) (omega arith)) c.escape.ensures
  | in_default-via-else-c-lt32+else-c-lt127 w ↦ said _ (above c.args.c (λ e. omega (arith, e)) (λ e. omega (arith, e)) (omega arith)) c.escape.ensures
]
