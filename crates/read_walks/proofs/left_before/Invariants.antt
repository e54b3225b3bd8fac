use Prim.Native.Nat.{◌-◌, ◌≤◌}
use mathlib.Core.Path.{◌≡◌}
use lib.ListN.{length}
use Rattle.read_tokens.specs.Tokens.{lexemes}
use Rattle.read_tokens.specs.laws.Forward.{lexemes_at}
use Rattle.grammar.specs.Same.{same_symbol, is_in}
use Rattle.read_syntax.specs.Reading.{lefts_in}
use Rattle.read_walks.specs.steps.Names.{bytes_at, symbol_by}
use Rattle.read_walks.specs.laws.Hits.{Looking}
use Rattle.read_walks.proofs.left_before.Given as goal

abbrev pub invariant-loop-i : goal.invariant-loop-i
invariant-loop-i l =
    record {
      within : l.i ≤ length l.text;
      passed : Looking l.mode l.text l.limit (symbol_by l.symbol.kind (bytes_at l.text l.symbol.from l.symbol.size)) l.i;
      whole : is_in same_symbol (symbol_by l.symbol.kind (bytes_at l.text l.symbol.from l.symbol.size)) (lefts_in (lexemes_at l.mode l.text l.i)) ≡ is_in same_symbol
          (symbol_by l.symbol.kind (bytes_at l.text l.symbol.from l.symbol.size)) (lefts_in (lexemes l.mode l.text));
    }

abbrev pub decreases-loop-i : goal.decreases-loop-i
decreases-loop-i l = length l.text - l.i
