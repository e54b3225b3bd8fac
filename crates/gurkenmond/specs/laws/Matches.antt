-- The answer of a match, from what a match on a table comes to. Assumes nothing.
use Rattle.std.specs.Prelude.{ℕ, zero, suc, ◌≡◌, refl, true, List, get_or}
use Rattle.std.proofs.Math.Path.{sym}
use Rattle.std.proofs.Common.{ap, ◌∙◌}
use Rattle.std.proofs.Math.Option.{Option, none, some}
use Rattle.read_tokens.specs.declared.Mode.{Mode}
use Rattle.grammar.specs.Numbers.{numbered}
use Rattle.grammar.specs.Refusal.{Refusal, ◌▸◌}
use Rattle.grammar_table.specs.Holds.{Holds}
use Rattle.read_syntax.specs.Reading.{rules_of}
use Rattle.lake_step_one.specs.steps.Made.{with_bodies}
use Rattle.lake_step_two.specs.steps.Stepped.{plain_of}
use Rattle.match_cells.specs.steps.Runs.{Plain}
use Rattle.match_list.specs.Nodes.{Listing, all, deep, full, list_of, listing_of, words_of, room_of}
use Rattle.match_run.specs.declared.Match.{Match}
use Rattle.match_run.specs.steps.Runs.{Loopless, not_matched, Lent, lent, listed_by, ran_by, ran_after, Ran}
use Rattle.prepare.specs.declared.Counted.{Counted}
use Rattle.prepare.specs.declared.Verdict.{Verdict}
use Rattle.prepare.specs.Prepare.{Prepared, prepared, prepared_by, refuses}
use Rattle.prepare.specs.Reads.{verdict_of, is_refused, read_of}
use Rattle.prepare.specs.laws.Reads.{clear-sound, clear-loop}
use Rattle.gurkenmond.specs.Answers.{outcome_says}
use Rattle.gurkenmond.specs.Calls.{Matching, matching, SaysMatch, refuses_input, listing_by, match_by, filled, match_after, match_of}
use Rattle.gurkenmond.specs.laws.Verdicts.{handed}

-- an answer and every lent word, in 01's terms
abbrev told : Lent → Matching
told x = matching x.answer.nodes (outcome_says x.answer.outcome) x.cells x.nodes

says-by : (r : Match) (cs ws : List ℕ) (w : Matching) → told (lent r cs ws) ≡ w → SaysMatch r cs ws w
says-by r cs ws w e =
    (ap (λ (x : Matching). x.answer.nodes) e, ap (λ (x : Matching). x.answer.outcome) e, ap (λ (x : Matching). x.cells) e, ap (λ (x : Matching). x.nodes) e)

-- the same answer says the same
pub as-match : {r r' : Match} {cs ws : List ℕ} {w : Matching} → r ≡ r' → SaysMatch r' cs ws w → SaysMatch r cs ws w
as-match e s = (ap (λ (x : Match). x.nodes) e ∙ s.0, ap (λ (x : Match). outcome_says x.outcome) e ∙ s.1, s.2, s.3)

-- ── what a match on a table comes to says what the definition says ──
module _ (p : Prepared) (s ws : List ℕ) where
  by-list : (taken : ℕ) (l : Listing) (cs words : List ℕ) → told (lent (listed_by taken l) cs words) ≡ listing_by taken l cs words
  by-list taken (all k) cs words = refl
  by-list taken (deep k) cs words = refl
  by-list taken (full k) cs words = refl

  by-cell : (c : ℕ) (cs : List ℕ) → told (ran_by c p.bodies s cs ws) ≡ match_by c p.bodies s cs ws
  by-cell zero cs = refl
  by-cell (suc k) cs = by-list k (listing_of (room_of ws) 0 (list_of p.bodies s cs)) cs (words_of (room_of ws) ws (list_of p.bodies s cs))

  ran_says : (o : Option Refusal) (cs : List ℕ) → told (ran_after o p.bodies s cs ws) ≡ match_after o p s cs ws
  ran_says (some r) cs = refl
  ran_says none cs = by-cell (get_or (filled p s cs) 0 0) (filled p s cs)

-- ── the call ──
module _ (m : Mode) (s : List ℕ) (out : List ℕ) (clear : refuses m s ≡ none) (h : Holds out (with_bodies (numbered (rules_of m s)) (plain_of (numbered (rules_of m s))))) where
  pub plain-is : Plain out (numbered (rules_of m s)) (plain_of (numbered (rules_of m s)))
  plain-is = record { holds = h; sound = clear-sound m s clear }

  pub loopless : Loopless out
  loopless = record { grammar = numbered (rules_of m s); bodies = plain_of (numbered (rules_of m s)); plain = plain-is; clear = clear-loop m s clear }

  pub match-ran : (i cs ws new words : List ℕ) (r : Match) → Ran out i cs ws new words r → SaysMatch r new words (match_of m s i cs ws)
  unfolding match_of prepared prepared_by
  match-ran i cs ws new words r a =
      says-by r new words (match_of m s i cs ws)
      (ap told (a.are (numbered (rules_of m s)) (plain_of (numbered (rules_of m s))) plain-is (clear-loop m s clear))
      ∙ ran_says (prepared m s) i ws (refuses_input (prepared m s) i cs) cs
      ∙ sym (ap (λ (o : Option Refusal). match_after (o ▸ refuses_input (prepared m s) i cs) (prepared m s) i cs ws) clear))

pub match-refused : (m : Mode) (s i cs ws : List ℕ) (c : Counted) → c ≡ read_of m s → is_refused c.verdict ≡ true → SaysMatch (not_matched c.verdict) cs ws (match_of m s i cs ws)
unfolding match_of verdict_of
match-refused m s i cs ws c q h =
    let w = handed m s c q h in
    says-by (not_matched c.verdict) cs ws (match_of m s i cs ws)
    (ap (λ (v : Verdict). told (lent (not_matched v) cs ws)) w.2
    ∙ sym (ap (λ (o : Option Refusal). match_after (o ▸ refuses_input (prepared m s) i cs) (prepared m s) i cs ws) w.1))
