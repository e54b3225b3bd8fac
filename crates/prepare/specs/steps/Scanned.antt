-- Refusals 1 to 5 as one chain (01, Refusal numbers): what is left of reading's chain when 6 is taken off. Assumes nothing: these are definitions.
use Rattle.std.specs.Prelude.{ℕ, List, [], length}
use Rattle.std.proofs.Math.Option.{Option}
use Rattle.read_tokens.specs.declared.Mode.{Mode}
use Rattle.read_tokens.specs.Tokens.{lexemes}
use Rattle.grammar.specs.Refusal.{Refusal, refuse_at, ◌▸◌}
use Rattle.read_syntax.specs.Machine.{judge, start}
use Rattle.read_syntax.specs.Reading.{too_long, offence, second, unruled, lefts_in}

abbrev pub scanned : Mode → List ℕ → Option Refusal
scanned m s =
    too_long m s
    ▸ offence (length s) (lexemes m s) (judge m 0 start (lexemes m s))
    ▸ refuse_at 4 (second m [] (lexemes m s))
    ▸ refuse_at 5 (unruled (lefts_in (lexemes m s)) (lexemes m s))
