-- A match on the table of a plain grammar, as code says it (01, Meaning of a match; 01, Refusal numbers, 9 to 12). Assumes nothing: these are definitions.
use Rattle.std.specs.Prelude.{ℕ, zero, suc, ◌+◌, ◌*◌, ◌≡◌, List, length, get_or, ltb, Result, Ok, Err}
use Rattle.std.proofs.Math.Option.{Option, none, some}
use Rattle.read_tokens.specs.Bounds.{input_bound}
use Rattle.grammar.specs.Exp.{Exp}
use Rattle.grammar.specs.Numbers.{Grammar}
use Rattle.grammar.specs.Refusal.{Refusal, refuse_if, ◌▸◌}
use Rattle.lake_plain.specs.Calls.{loop, order}
use Rattle.match_nodes.specs.declared.Offence.{Offence}
use Rattle.match_nodes.specs.declared.Offence.TheVariants.{Deep, Full}
use Rattle.match_cells.specs.Cells.{cells}
use Rattle.match_cells.specs.steps.Runs.{Plain}
use Rattle.match_list.specs.Nodes.{Listing, all, deep, full, list_of, listing_of, words_of, room_of}
use Rattle.prepare.specs.declared.Verdict.{Verdict}
use Rattle.prepare.specs.declared.Verdict.TheVariants.{Accepted, Refused as VerdictRefused}
use Rattle.match_run.specs.declared.Match.{Match}
use Rattle.match_run.specs.declared.Outcome.{Outcome}
use Rattle.match_run.specs.declared.Outcome.TheVariants.{Matched, NoMatch, Refused as OutcomeRefused}

-- a table that holds a plain grammar without a loop
pub record Loopless (t : List ℕ) : Type 0 where
  pub grammar : Grammar
  pub bodies : List (Exp ℕ)
  pub plain : Plain t grammar bodies
  pub clear : loop bodies ≡ none

abbrev pub outcome : ℕ → Outcome → Match
outcome k o = record { nodes = k; outcome = o }

-- a list's answer for a match of so many bytes
abbrev pub listed_match : ℕ → Result ℕ Offence → Match
listed_match taken (Ok k) = outcome k (Matched taken)
listed_match taken (Err (Deep k)) = outcome 0 (OutcomeRefused 11 k)
listed_match taken (Err (Full k)) = outcome 0 (OutcomeRefused 12 k)

-- a refusal, handed on
abbrev pub not_matched : Verdict → Match
not_matched Accepted = outcome 0 NoMatch
not_matched (VerdictRefused n p) = outcome 0 (OutcomeRefused n p)

-- ── the answer, and every lent word after it ──
pub record Lent : Type 0 where
  pub answer : Match
  pub cells : List ℕ
  pub nodes : List ℕ

abbrev pub lent : Match → List ℕ → List ℕ → Lent
lent r cs ws = record { answer = r; cells = cs; nodes = ws }

abbrev pub needed : List (Exp ℕ) → List ℕ → ℕ
needed bodies s = length bodies * (length s + 1)

-- 9, then 10
abbrev pub refuses_room : List (Exp ℕ) → List ℕ → List ℕ → Option Refusal
refuses_room bodies s cs = refuse_if (ltb input_bound (length s)) 9 input_bound ▸ refuse_if (ltb (length cs) (needed bodies s)) 10 (needed bodies s)

abbrev pub filled_by : List (Exp ℕ) → List ℕ → List ℕ → List ℕ
filled_by bodies s cs = cells bodies (order bodies) s cs

abbrev pub listed_by : ℕ → Listing → Match
listed_by taken (all k) = listed_match taken (Ok k)
listed_by taken (deep k) = listed_match taken (Err (Deep k))
listed_by taken (full k) = listed_match taken (Err (Full k))

-- by the start symbol's cell at 0
abbrev pub ran_by : ℕ → List (Exp ℕ) → List ℕ → List ℕ → List ℕ → Lent
ran_by zero bodies s cs ws = lent (outcome 0 NoMatch) cs ws
ran_by (suc taken) bodies s cs ws = lent (listed_by taken (listing_of (room_of ws) 0 (list_of bodies s cs))) cs (words_of (room_of ws) ws (list_of bodies s cs))

abbrev pub ran_after : Option Refusal → List (Exp ℕ) → List ℕ → List ℕ → List ℕ → Lent
ran_after (some r) bodies s cs ws = lent (not_matched (VerdictRefused r.number r.place)) cs ws
ran_after none bodies s cs ws = ran_by (get_or (filled_by bodies s cs) 0 0) bodies s (filled_by bodies s cs) ws

-- what 9 to 12 and the match come to, for whatever bodies the table holds
pub record Ran (t s cs ws new words : List ℕ) (r : Match) : Type 0 where
  pub are : (g : Grammar) (bodies : List (Exp ℕ)) → Plain t g bodies → loop bodies ≡ none → lent r new words ≡ ran_after (refuses_room bodies s cs) bodies s cs
      ws
