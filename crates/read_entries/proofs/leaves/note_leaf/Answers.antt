use Rattle.std.proofs.Common.{ℕ, ◌+◌, List, refl, ap, ◌∙◌, subst, arith}
use Rattle.grammar_table.specs.Table.{terminals_at, terminal_words, terminal_key}
use Rattle.grammar_table.specs.steps.Rows.{Noted}
use Rattle.grammar_table.specs.laws.Caps.{cap-le}
use Rattle.read_entries.specs.declared.leaves.Leaf.TheVariants.{Literal}
use Rattle.read_entries.specs.steps.Leaves.{words_of}
use Rattle.read_entries.specs.laws.Decoded.{decoded-literal, decoded-class, decoded-other}
use Rattle.read_entries.proofs.leaves.note_leaf.Goals as goal

pub returns-in-Class : goal.returns-in-Class
returns-in-Class c = subst (λ (x : List ℕ). Noted c.args.t.now c.note.new.t x 1 terminal_key terminal_words terminals_at c.note.result)
    (decoded-class c.args.mode c.args.text.now c.args.kind c.args.start c.args.size c.in-Class.is _ c.class_marks-marks.ensures) c.note.ensures

pub note-requires-in-Literal : goal.note-requires-in-Literal
note-requires-in-Literal c = (omega (arith, c.requires.0), c.requires.1, omega (arith, c.least.ensures, cap-le c.args.size 256))

pub returns-in-Literal : goal.returns-in-Literal
returns-in-Literal c = subst
    (λ (x : List ℕ). Noted c.args.t.now c.note-in-Literal.new.t x 1 terminal_key terminal_words terminals_at c.note-in-Literal.result)
    (ap (λ (n : ℕ). words_of (Literal c.args.text (c.args.start + 1) n)) c.least.ensures
    ∙ decoded-literal c.args.mode c.args.text.now c.args.kind c.args.start c.args.size c.in-Literal.is c.args.text refl)
    c.note-in-Literal.ensures

pub returns-in_default : goal.returns-in_default
returns-in_default c = subst (λ (x : List ℕ). Noted c.args.t.now c.note-in_default.new.t x 1 terminal_key terminal_words terminals_at c.note-in_default.result)
    (decoded-other c.args.mode c.args.text.now c.args.kind c.args.start c.args.size c.in_default.not-Literal c.in_default.not-Class) c.note-in_default.ensures
