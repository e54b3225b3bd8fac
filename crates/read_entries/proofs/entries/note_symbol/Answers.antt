use Prim.Native.Nat.{ℕ}
use mathlib.Core.Path.{subst}
use mathlib.Core.List.{List}
use Rattle.grammar_table.specs.Table.{symbols_at, symbol_words, symbol_key}
use Rattle.grammar_table.specs.steps.Rows.{Noted}
use Rattle.read_entries.proofs.entries.note_symbol.Goals as goal

pub returns : goal.returns
returns c = subst (λ (x : List ℕ). Noted c.args.t.now
    c.note.new.t x 0 symbol_key symbol_words symbols_at c.note.result) c.symbol_row-row.ensures
    c.note.ensures
