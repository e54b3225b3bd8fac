-- What lent memory holds of an analysis. Assumes nothing: these are definitions.
use Rattle.std.specs.Prelude.{ℕ, ◌≡◌, Bool, false, List, get_or}
use Rattle.base_words.specs.Set.{empty}
use Rattle.lake_rules.specs.Beginning.{begin, nothing}
use Rattle.lake_rules.specs.Analysis.{Analysis}

-- what lent memory holds of an analysis, each run as long as there are expressions, and of the marks as there are symbols
pub record Analysed (a : Analysis) (marks : List Bool) (sets : List (List ℕ)) (eps : List Bool) (succ alts : List (List ℕ)) (rounds : ℕ) : Type 0 where
  pub marks-is : marks ≡ a.marks
  pub begins-is : (i : ℕ) → begin (get_or sets i empty) (get_or eps i false) ≡ get_or a.begins i nothing
  pub succeeds-is : succ ≡ a.succeeds
  pub alts-is : alts ≡ a.alts
  pub rounds-is : rounds ≡ a.rounds
