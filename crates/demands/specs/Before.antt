-- What a grammar text was refused for before 02, §4: 1 to 6 as now, 7 and 8 of the plain form as it was. Assumes nothing: these are definitions.
use Rattle.std.specs.Prelude.{ℕ, List}
use Rattle.std.proofs.Math.Option.{Option}
use Rattle.read_tokens.specs.declared.Mode.{Mode}
use Rattle.grammar.specs.Exp.{Exp}
use Rattle.grammar.specs.Numbers.{numbered}
use Rattle.grammar.specs.Refusal.{Refusal, ◌▸◌}
use Rattle.read_syntax.specs.Reading.{refuses_text, rules_of}
use Rattle.lake_plain.specs.Plain.{too_large}
use Rattle.lake_plain.specs.Calls.{looping}
use Rattle.lake_before.specs.Before.{plain_before}

abbrev pub refused_by : Option Refusal → List (Exp ℕ) → Option Refusal
refused_by o bodies = o ▸ too_large bodies ▸ looping bodies

abbrev pub refuses_before : Mode → List ℕ → Option Refusal
refuses_before m t = refused_by (refuses_text m t) (plain_before (numbered (rules_of m t)))
