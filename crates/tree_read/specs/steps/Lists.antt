-- A JSON text read once a grammar is prepared: 9, then 16 and 12 (02, par. 1). Assumes nothing: these are definitions.
use Rattle.std.specs.Prelude.{ℕ, ◌≤◌, ◌<◌, ◌≡◌, List, length}
use Rattle.std.proofs.Math.Option.{Option}
use Rattle.read_tokens.specs.Bounds.{input_bound}
use Rattle.match_meaning.specs.Meaning.{Node}
use Rattle.prepare.specs.declared.Verdict.{Verdict}
use Rattle.prepare.specs.declared.Verdict.TheVariants.{Refused}
use Rattle.tree_read.specs.declared.Parsed.{Parsed}
use Rattle.tree_read.specs.steps.Puts.{parsed_by, words_by}

-- a refusal, handed on
abbrev pub not_read : Verdict → Parsed
not_read v = record { nodes = 0; verdict = v }

-- o is what the text says, for the input s
pub record ReadList (s : List ℕ) (o : Option (List Node)) (old new : List ℕ) (r : Parsed) : Type 0 where
  pub long : input_bound < length s → (r ≡ not_read (Refused 9 input_bound)) × (new ≡ old)
  pub within : length s ≤ input_bound → (r ≡ parsed_by o old) × (new ≡ words_by o old)
