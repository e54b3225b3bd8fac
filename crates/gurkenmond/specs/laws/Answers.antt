-- What an answer says determines it, and what the verdicts of the definitions say. Assumes nothing.
use Rattle.std.specs.Prelude.{ℕ, ◌≡◌, refl, Bool, true, false, ◌&&◌, List, ltb, length, get_or}
use Rattle.std.proofs.Common.{sym, ap, ◌∙◌}
use Rattle.std.proofs.Math.Option.{Option, none, some}
use Rattle.read_tokens.specs.declared.Mode.{Mode}
use Rattle.grammar.specs.Numbers.{Grammar}
use Rattle.grammar.specs.Refusal.{Refusal}
use Rattle.lake_step_one.specs.Intermediate.{water_in}
use Rattle.lake_plain.specs.Plain.{alternatives}
use Rattle.match_lake.specs.Asking.{none_matches, own_takes, way_number, way_in}
use Rattle.prepare.specs.declared.Counted.{Counted}
use Rattle.prepare.specs.declared.Verdict.{Verdict}
use Rattle.prepare.specs.declared.Verdict.TheVariants.{Accepted, Refused as VerdictRefused}
use Rattle.prepare.specs.Prepare.{prepared, refuses}
use Rattle.prepare.specs.Reads.{verdict_of, read_by, read_of}
use Rattle.gurkenmond.specs.declared.SetsOf.{SetsOf}
use Rattle.gurkenmond.specs.declared.Lakes.{Lakes}
use Rattle.match_run.specs.declared.Outcome.{Outcome}
use Rattle.match_run.specs.declared.Outcome.TheVariants.{Matched, NoMatch, Refused as OutcomeRefused}
use Rattle.match_lake.specs.declared.ways.Way.{Way}
use Rattle.match_lake.specs.declared.ways.Way.TheVariants.{Not, ByRule, ByWater, BySkip}
use Rattle.match_lake.specs.steps.Ways.{way_of}
use Rattle.gurkenmond.specs.Answers.{Says, refused, nomatch, value, verdict_says, way_says, outcome_says}
use Rattle.gurkenmond.specs.Calls.{SaysRead, sets_by, refuses_sets, sets_of, SaysSets, lakes_by, cannot_skip_of, SaysLakes}

-- ── each way back ──
verdict-back : (v : Verdict) → verdict_of (verdict_says v) ≡ v
unfolding verdict_of
verdict-back Accepted = refl
verdict-back (VerdictRefused n p) = refl

way_back : (w : Way) → way_of (way_says w) ≡ w
unfolding way_of
way_back Not = refl
way_back ByRule = refl
way_back ByWater = refl
way_back BySkip = refl

outcome_of : Says → Outcome
outcome_of (refused n p) = OutcomeRefused n p
outcome_of nomatch = NoMatch
outcome_of (value k) = Matched k

outcome-back : (o : Outcome) → outcome_of (outcome_says o) ≡ o
unfolding outcome_of
outcome-back (Matched k) = refl
outcome-back NoMatch = refl
outcome-back (OutcomeRefused n p) = refl

-- ── so two answers that say the same are the same ──
pub verdict-one : (v w : Verdict) → verdict_says v ≡ verdict_says w → v ≡ w
verdict-one v w e = sym (verdict-back v) ∙ ap verdict_of e ∙ verdict-back w

pub way-one : (v w : Way) → way_says v ≡ way_says w → v ≡ w
way-one v w e = sym (way_back v) ∙ ap way_of e ∙ way_back w

pub outcome-one : (o p : Outcome) → outcome_says o ≡ outcome_says p → o ≡ p
outcome-one o p e = sym (outcome-back o) ∙ ap outcome_of e ∙ outcome-back p

-- ── what the verdicts say ──
pub verdict-says : (o : Option Refusal) → verdict_says (verdict_of o) ≡ o
unfolding verdict_of
verdict-says none = refl
verdict-says (some r) = refl

pub read_told : (m : Mode) (t : List ℕ) (r : Counted) → r ≡ read_of m t → SaysRead r m t
unfolding read_of
read_told m t r e = (e, ap (λ (x : Counted). verdict_says x.verdict) e ∙ go (refuses m t))
  where
    go : (o : Option Refusal) → verdict_says (read_by o (prepared m t)).verdict ≡ o
    go none = verdict-says none
    go (some x) = verdict-says (some x)

pub sets-told : (m : Mode) (t : List ℕ) (i : ℕ) {r : SetsOf} → r ≡ sets_of m t i → SaysSets r m t i
unfolding sets_of
sets-told m t i e = (e, ap (λ (x : SetsOf). verdict_says x.verdict) e ∙ go (refuses_sets m t i))
  where
    go : (o : Option Refusal) → verdict_says (sets_by o (prepared m t).analysis i).verdict ≡ o
    go none = verdict-says none
    go (some x) = verdict-says (some x)

pub lakes-told : (m : Mode) (t : List ℕ) {r : Lakes} → r ≡ cannot_skip_of m t → SaysLakes r m t
unfolding cannot_skip_of
lakes-told m t e = (e, ap (λ (x : Lakes). verdict_says x.verdict) e ∙ go (refuses m t))
  where
    go : (o : Option Refusal) → verdict_says (lakes_by o (prepared m t)).verdict ≡ o
    go none = verdict-says none
    go (some x) = verdict-says (some x)

-- ── the ways are 0 to 3, so that a way says the number that it stands for ──
way-says : (a b c : Bool) → let k : ℕ = elim a [ true ↦ 1 | false ↦ elim b [ true ↦ 2 | false ↦ elim c [ true ↦ 3 | false ↦ 0 ] ] ] in way_says (way_of k) ≡ k
unfolding way_of
way-says true b c = refl
way-says false true c = refl
way-says false false true = refl
way-says false false false = refl

pub way-said : (g : Grammar) (s cs : List ℕ) (n : ℕ) (set : List ℕ) (l p : ℕ) → way_says (way_of (way_in g s cs n set l p)) ≡ way_in g s cs n set l p
unfolding way_in way_number
way-said g s cs n set l p =
    way-says (own_takes s cs n (get_or g.rights l none) p) (own_takes s cs n (water_in g) p)
    (ltb p (length s) && none_matches s cs n (alternatives g set) p)
