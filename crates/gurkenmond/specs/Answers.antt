-- What each case of an answer says: document 01's number and values (01, Required forms by place: "For every case of an enum answer, a definition gives this
-- paper's number and values. The promises use that definition"). The promises of the calls are stated through these. Assumes nothing: these are definitions.
use Rattle.std.specs.Prelude.{ℕ}
use Rattle.std.proofs.Math.Option.{Option, none, some}
use Rattle.grammar.specs.Refusal.{Refusal, refusal}
use Rattle.prepare.specs.declared.Verdict.{Verdict}
use Rattle.prepare.specs.declared.Verdict.TheVariants.{Accepted, Refused as VerdictRefused}
use Rattle.match_run.specs.declared.Outcome.{Outcome}
use Rattle.match_run.specs.declared.Outcome.TheVariants.{Matched, NoMatch, Refused as OutcomeRefused}
use Rattle.match_lake.specs.declared.ways.Way.{Way}
use Rattle.match_lake.specs.declared.ways.Way.TheVariants.{Not, ByRule, ByWater, BySkip}

-- nothing refuses, or "a refusal has a number and a place"
abbrev pub verdict_says : Verdict → Option Refusal
verdict_says Accepted = none
verdict_says (VerdictRefused n p) = some (refusal n p)

-- "0 not, 1 by its rule, 2 by water, 3 by one skipped byte"
abbrev pub way_says : Way → ℕ
way_says Not = 0
way_says ByRule = 1
way_says ByWater = 2
way_says BySkip = 3

-- "matched to a place, none, or refused with number and place"; the place reached is the number of bytes taken
pub data Says : Type 0 where
  refused : ℕ → ℕ → Says
  nomatch : Says
  value : ℕ → Says

abbrev pub outcome_says : Outcome → Says
outcome_says (Matched p) = value p
outcome_says NoMatch = nomatch
outcome_says (OutcomeRefused n p) = refused n p
