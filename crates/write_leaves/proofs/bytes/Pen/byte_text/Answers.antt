use Rattle.std.proofs.Common.{sym, ap, arith}
use Rattle.write_rules.specs.Writing.{byte_text}
use Rattle.write_leaves.specs.laws.Pen.{said}
use Rattle.write_leaves.specs.laws.Bytes.{raw, printable, control, middle}
use Rattle.write_leaves.proofs.bytes.Pen.byte_text.Goals.{then-c-lt127, else-c-lt127+else-c-lt192, in_default-via-then-c-lt32, in_default-via-else-c-lt32+else-c-lt127+then-c-lt192}
use Rattle.write_leaves.proofs.bytes.Pen.byte_text.Goals as goal

pub returns-in-92 : goal.returns-in-92
unfolding byte_text
returns-in-92 c = said _ (ap byte_text (sym c.in-92.is)) c.emit_all.ensures

pub returns-in-10 : goal.returns-in-10
unfolding byte_text
returns-in-10 c = said _ (ap byte_text (sym c.in-10.is)) c.emit_all-in-10.ensures

pub returns-in-13 : goal.returns-in-13
unfolding byte_text
returns-in-13 c = said _ (ap byte_text (sym c.in-13.is)) c.emit_all-in-13.ensures

pub returns-in-9 : goal.returns-in-9
unfolding byte_text
returns-in-9 c = said _ (ap byte_text (sym c.in-9.is)) c.emit_all-in-9.ensures

pub returns-in-32-to-126 : goal.returns-in-32-to-126
returns-in-32-to-126 c = elim c.in-32-to-126-1.branch [
  | then-c-lt127 w ↦ said _ (printable c.args.c (λ e. omega (arith, e)) (λ e. omega (arith, e)) (λ e. omega (arith, e)) (λ e. omega (arith, e)) (omega arith) (omega arith)) c.emit.ensures
  | else-c-lt127+else-c-lt192 w ↦ said _ (raw c.args.c (λ e. omega (arith, e)) (λ e. omega (arith, e)) (λ e. omega (arith, e)) (λ e. omega (arith, e)) (omega arith)) c.emit.ensures
]

pub returns-in_default : goal.returns-in_default
returns-in_default c = elim c.in_default.branch [
  | in_default-via-then-c-lt32 w ↦ said _ (control c.args.c (λ e. omega (arith, e)) (λ e. omega (arith, e)) (λ e. omega (arith, e)) (λ e. omega (arith, e)) (omega arith)) c.emit_all-in_default.ensures
  | in_default-via-else-c-lt32+else-c-lt127+then-c-lt192 w ↦ said _ (middle c.args.c (λ e. omega (arith, e)) (λ e. omega (arith, e)) (λ e. omega (arith, e)) (λ e. omega (arith, e))
      (omega arith) (omega arith)) c.emit_all-in_default.ensures
]
