-- What every call on a grammar does first: "Every call on a grammar checks 1 to 8" (01, Refusal numbers). Assumes nothing: these are definitions.
use Rattle.std.specs.Prelude.{ℕ, List}
use Rattle.std.proofs.Math.Option.{Option}
use Rattle.read_tokens.specs.declared.Mode.{Mode}
use Rattle.grammar.specs.Exp.{Exp, Rule}
use Rattle.grammar.specs.Numbers.{Grammar, numbered}
use Rattle.grammar.specs.Refusal.{Refusal, ◌▸◌}
use Rattle.read_syntax.specs.Reading.{refuses_text, rules_of}
use Rattle.lake_rules.specs.Analysis.{Analysis, analysis}
use Rattle.lake_plain.specs.Plain.{plain_bodies, too_large}
use Rattle.lake_plain.specs.Calls.{looping}

-- a grammar text worked out: its rules, by numbers, its sets, its plain bodies
pub record Prepared : Type 0 where
  pub rules : List Rule
  pub grammar : Grammar
  pub analysis : Analysis
  pub bodies : List (Exp ℕ)

unfoldable pub prepared_by : List Rule → Prepared
prepared_by rs =
    let g : Grammar = numbered rs in
    let a : Analysis = analysis g in
    record { rules = rs; grammar = g; analysis = a; bodies = plain_bodies g a }

unfoldable pub prepared : Mode → List ℕ → Prepared
prepared m t = prepared_by (rules_of m t)

-- 1 to 8
unfoldable pub refuses : Mode → List ℕ → Option Refusal
refuses m t = refuses_text m t ▸ too_large (prepared m t).bodies ▸ looping (prepared m t).bodies
