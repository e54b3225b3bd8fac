-- The three sets of one intermediate expression, as a call hands them over (01, Meaning of a match, "Other calls"). Assumes nothing: these are
-- definitions.
use Rattle.std.specs.Prelude.{ℕ, ◌-◌, get_or}
use Rattle.base_words.specs.Set.{empty}
use Rattle.lake_rules.specs.Beginning.{nothing}
use Rattle.lake_rules.specs.Analysis.{Analysis}
use Rattle.lake_sets.specs.declared.Sets.{Sets}

-- the sets of the expression with number e from 1
unfoldable pub sets_at : Analysis → ℕ → Sets
sets_at a e =
    record {
      begin = (get_or a.begins (e - 1) nothing).set;
      succeed = get_or a.succeeds (e - 1) empty;
      alt = get_or a.alts (e - 1) empty;
      eps = (get_or a.begins (e - 1) nothing).eps;
    }
