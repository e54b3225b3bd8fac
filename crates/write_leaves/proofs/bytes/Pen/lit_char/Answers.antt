use Rattle.std.proofs.Common.{sym, ap, arith}
use Rattle.write_rules.specs.Writing.{lit_char}
use Rattle.write_leaves.specs.laws.Pen.{said}
use Rattle.write_leaves.specs.laws.Bytes.{plain-lit}
use Rattle.write_leaves.proofs.bytes.Pen.lit_char.Goals as goal

pub returns-in-39 : goal.returns-in-39
unfolding lit_char
returns-in-39 c = said _ (ap lit_char (sym c.in-39.is)) c.emit_all.ensures

pub returns-in_default : goal.returns-in_default
returns-in_default c = said _ (plain-lit c.args.c (λ e. omega (arith, e))) c.byte_text.ensures
