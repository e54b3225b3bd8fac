use Prim.Native.Nat.{ℕ}
use mathlib.Core.Path.{ap, ◌∙◌}
use mathlib.Core.List.{List}
use Rattle.grammar_table.specs.Table.{symbols_at, symbol_words, symbol_key}
use Rattle.grammar_table.specs.steps.Rows.{cap, seek}
use Rattle.grammar_table.specs.laws.Caps.{cap-le}
use Rattle.grammar_table.specs.laws.Seeks.{seek-within}
use Rattle.read_entries.specs.steps.Entries.{symbol_at}
use native.Mathlib.Omega.{arith}
use Rattle.read_entries.proofs.entries.symbol_number.Goals as goal

pub find-requires : goal.find-requires
find-requires c = (omega arith, omega (arith, c.least-n.ensures, cap-le c.symbols.result 64))

pub returns : goal.returns
returns c = (
  c.find.ensures ∙ ap (λ (x : List ℕ). seek c.args.t.now x symbol_key symbol_words symbols_at
      c.least-n.result) c.symbol_row-row.ensures ∙ ap (λ (x : ℕ). seek c.args.t.now
      (symbol_at c.args.text.now c.args.kind
      c.args.start c.args.size) symbol_key symbol_words symbols_at x)
      (c.least-n.ensures ∙ ap (λ (x : ℕ). cap 64 x) c.symbols.ensures.0),
  omega (
    arith,
    c.find.ensures,
    seek-within
        c.args.t.now c.symbol_row-row.result symbol_key symbol_words symbols_at
        c.least-n.result,
    c.least-n.ensures,
    cap-le c.symbols.result 64,
  ),
)
