-- The numbers of a line and a column are those of what the answer says. Assumes nothing.
use Rattle.std.specs.Prelude.{ℕ, ◌≡◌}
use Rattle.std.proofs.Common.{ap, ap₂, ◌∙◌}
use Rattle.std.proofs.Math.Option.{Option}
use Rattle.grammar.specs.Refusal.{Refusal}
use Rattle.gurkenmond.specs.declared.Spot.{Spot}
use Rattle.gurkenmond.specs.Answers.{verdict_says}
use Rattle.gurkenmond.specs.Calls.{Spotting, SaysSpot}
use Rattle.library_numbers.specs.Words.{spot_by, spot_words}

pub spot-numbers : (s : Spot) (w : Spotting) → SaysSpot s w → spot_by (verdict_says s.verdict) s.line s.column ≡ spot_words w
spot-numbers s w h =
    ap₂ (λ (o : Option Refusal) (l : ℕ). spot_by o l s.column) h.2 h.0 ∙ ap (λ (k : ℕ). spot_by w.verdict w.line k) h.1
