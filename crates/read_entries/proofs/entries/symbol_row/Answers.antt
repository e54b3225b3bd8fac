use Prim.Native.Nat.{ℕ, ◌+◌}
use mathlib.Core.Path.{ap, ◌∙◌}
use Rattle.grammar_table.specs.Table.{words_from}
use Rattle.read_entries.specs.steps.Entries.{symbol_row}
use Rattle.read_entries.proofs.entries.symbol_row.Goals as goal

pub returns : goal.returns
returns c = c.name_row.ensures ∙ ap (λ (k : ℕ). symbol_row k
    (words_from c.args.text.now (c.args.start + k) c.args.size)) c.lake_of-k.ensures.0
