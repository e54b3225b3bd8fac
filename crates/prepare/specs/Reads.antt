-- What the call `read` answers: a verdict with the counts of the grammar as read (01, Refusal numbers). Assumes nothing: these are definitions.
use Rattle.std.specs.Prelude.{ℕ, Bool, true, false, List, length}
use Rattle.std.proofs.Math.Option.{Option, none, some}
use Rattle.read_tokens.specs.declared.Mode.{Mode}
use Rattle.grammar.specs.Numbers.{expressions_of}
use Rattle.grammar.specs.Refusal.{Refusal}
use Rattle.prepare.specs.declared.Verdict.{Verdict}
use Rattle.prepare.specs.declared.Verdict.TheVariants.{Accepted, Refused as VerdictRefused}
use Rattle.prepare.specs.declared.Counted.{Counted}
use Rattle.prepare.specs.Prepare.{Prepared, prepared, refuses}

-- a verdict by the first check that refuses
unfoldable pub verdict_of : Option Refusal → Verdict
verdict_of none = Accepted
verdict_of (some r) = VerdictRefused r.number r.place

abbrev pub is_refused : Verdict → Bool
is_refused Accepted = false
is_refused (VerdictRefused n p) = true

-- refused 1 to 8, or the counts of the grammar as read
abbrev pub read_by : Option Refusal → Prepared → Counted
read_by (some r) p = record { symbols = 0; terminals = 0; expressions = 0; verdict = verdict_of (some r) }
read_by none p =
    record
    { symbols = length p.grammar.names; terminals = length p.grammar.terminals; expressions = expressions_of p.rules; verdict = verdict_of none }

unfoldable pub read_of : Mode → List ℕ → Counted
read_of m t = read_by (refuses m t) (prepared m t)
