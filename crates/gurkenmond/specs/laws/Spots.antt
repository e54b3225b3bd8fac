-- Line and column of a position: 9, then 14 (02, par. 2). Assumes nothing.
use Rattle.std.specs.Prelude.{ℕ, ◌<◌, ◌≤◌, ◌≡◌, refl, Bool, true, false, not, List, leb, ltb, length}
use Rattle.std.proofs.Math.Path.{sym}
use Rattle.std.proofs.Common.{ap, ap₂, ◌∙◌, lt-ltb, le-ltb, le-leb}
use Rattle.std.proofs.Math.Option.{none, some}
use Rattle.std.proofs.lemmas.Bool.{lt-leb}
use Rattle.read_tokens.specs.Bounds.{input_bound}
use Rattle.grammar.specs.Refusal.{refusal, refuse_if, ◌▸◌}
use Rattle.base_lines.specs.Lines.{place_at}
use Rattle.base_lines.specs.declared.Place.{Place}
use Rattle.prepare.specs.declared.Verdict.TheVariants.{Accepted, Refused}
use Rattle.gurkenmond.specs.declared.Spot.{Spot}
use Rattle.gurkenmond.specs.Answers.{verdict_says}
use Rattle.gurkenmond.specs.Calls.{Spotting, spot_after, spot_of, SaysSpot}

abbrev no_spot : ℕ → ℕ → Spot
no_spot k q = record { line = 0; column = 0; verdict = Refused k q }

-- the same answer says the same
says-as : (r : Spot) (w v : Spotting) → w ≡ v → SaysSpot r w → SaysSpot r v
says-as r w v e h = (h.0 ∙ ap (λ (x : Spotting). x.line) e, h.1 ∙ ap (λ (x : Spotting). x.column) e, h.2 ∙ ap (λ (x : Spotting). x.verdict) e)

module _ (s : List ℕ) (p : ℕ) where
  by_tests : (long far : Bool) → ltb input_bound (length s) ≡ long → not (leb p (length s)) ≡ far
      → spot_after (refuse_if long 9 input_bound ▸ refuse_if far 14 0) s p ≡ spot_of s p
  unfolding spot_of
  by_tests long far e f = sym (ap₂ (λ (a : Bool) (b : Bool). spot_after (refuse_if a 9 input_bound ▸ refuse_if b 14 0) s p) e f)

  pub spot-long : (r : Spot) → r ≡ no_spot 9 input_bound → input_bound < length s → SaysSpot r (spot_of s p)
  spot-long r e l =
      says-as r (spot_after (some (refusal 9 input_bound)) s p) (spot_of s p)
      (by_tests true (not (leb p (length s))) (lt-ltb input_bound (length s) l) refl)
      (ap (λ (x : Spot). x.line) e, ap (λ (x : Spot). x.column) e, ap (λ (x : Spot). verdict_says x.verdict) e)

  pub spot_past : (r : Spot) → r ≡ no_spot 14 0 → length s ≤ input_bound → length s < p → SaysSpot r (spot_of s p)
  spot_past r e l f =
      says-as r (spot_after (some (refusal 14 0)) s p) (spot_of s p) (by_tests false true (le-ltb input_bound (length s) l) (ap not (lt-leb p (length s) f)))
      (ap (λ (x : Spot). x.line) e, ap (λ (x : Spot). x.column) e, ap (λ (x : Spot). verdict_says x.verdict) e)

  pub spot-there : (at : Place) → at ≡ place_at s p → length s ≤ input_bound → p ≤ length s
      → SaysSpot (record { line = at.line; column = at.column; verdict = Accepted }) (spot_of s p)
  spot-there at e l f =
      says-as (record { line = at.line; column = at.column; verdict = Accepted }) (spot_after none s p) (spot_of s p)
      (by_tests false false (le-ltb input_bound (length s) l) (ap not (le-leb p (length s) f)))
      (ap (λ (x : Place). x.line) e, ap (λ (x : Place). x.column) e, refl)
