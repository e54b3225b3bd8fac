use Rattle.std.proofs.Common.{sym, ap, arith}
use Rattle.write_rules.specs.Writing.{class_char}
use Rattle.write_leaves.specs.laws.Pen.{said}
use Rattle.write_leaves.specs.laws.Bytes.{plain-class}
use Rattle.write_leaves.proofs.bytes.Pen.class_char.Goals as goal

pub returns-in-91 : goal.returns-in-91
unfolding class_char
returns-in-91 c = said _ (ap class_char (sym c.in-91.is)) c.emit_all.ensures

pub returns-in-93 : goal.returns-in-93
unfolding class_char
returns-in-93 c = said _ (ap class_char (sym c.in-93.is)) c.emit_all-in-93.ensures

pub returns-in-45 : goal.returns-in-45
unfolding class_char
returns-in-45 c = said _ (ap class_char (sym c.in-45.is)) c.emit_all-in-45.ensures

pub returns-in-94 : goal.returns-in-94
unfolding class_char
returns-in-94 c = said _ (ap class_char (sym c.in-94.is)) c.emit_all-in-94.ensures

pub returns-in_default : goal.returns-in_default
returns-in_default c = said _ (plain-class c.args.c (λ e. omega (arith, e)) (λ e. omega (arith, e)) (λ e. omega (arith, e)) (λ e. omega (arith, e))) c.byte_text.ensures
