-- What code answers of the lake question. Assumes nothing: these are definitions.
use Rattle.std.specs.Prelude.{ℕ, zero, suc, ◌<◌, ◌≡◌, List, Option, None, Some}
use Rattle.grammar.specs.Same.{same_symbol, index_of}
use Rattle.grammar_table.specs.Table.{up_to, name_in}
use Rattle.lake_step_one.specs.Intermediate.{water_name}
use Rattle.match_lake.specs.declared.ways.Way.{Way}
use Rattle.match_lake.specs.declared.ways.Way.TheVariants.{Not, ByRule, ByWater, BySkip}

-- the way that a number stands for
unfoldable pub way_of : ℕ → Way
way_of zero = Not
way_of (suc zero) = ByRule
way_of (suc (suc zero)) = ByWater
way_of (suc (suc (suc k))) = BySkip

-- which of n symbols is called `water`, if one is
abbrev pub WaterAt : List ℕ → ℕ → Option ℕ → Type 0
WaterAt t n None = n ≡ index_of same_symbol water_name (up_to (name_in t) n)
WaterAt t n (Some i) = (i < n) × (i ≡ index_of same_symbol water_name (up_to (name_in t) n))
