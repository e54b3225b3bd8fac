-- What rules have whose text is accepted and read as the same rules (01, Notation; 01, Refusal numbers 1 to 6). Assumes nothing: these are definitions.
use Rattle.std.specs.Prelude.{◌≤◌, ◌≡◌, true, false, List, [], ◌∷◌, length}
use Rattle.read_tokens.specs.declared.Mode.{Mode}
use Rattle.read_tokens.specs.Token.{Symbol, name, lake}
use Rattle.read_tokens.specs.Bounds.{text_bound, open_bound, symbol_bound, terminal_bound, expression_bound}
use Rattle.grammar.specs.Exp.{Rule}
use Rattle.grammar.specs.Same.{same_symbol, is_in}
use Rattle.grammar.specs.Numbers.{left_sides, uses_of, symbols_of, terminals_of, expressions_of}
use Rattle.read_syntax.specs.Reading.{reserved}
use Rattle.grammar_table.specs.laws.Rows.{All}
use Rattle.write_rules.specs.Writing.{text}
use Rattle.write_rules.proofs.laws.Trip.{FineRules}
use Rattle.write_rules.proofs.laws.Pairs.{written}
use Rattle.write_rules.proofs.laws.Kept.{yields}
use Rattle.write_rules.proofs.laws.Depth.{peak}
use Rattle.write_rules.proofs.laws.Within.{Narrow}

-- none of the symbols is seen before, or twice
abbrev pub Distinct : List Symbol → List Symbol → Type 0
Distinct seen [] = Unit {0}
Distinct seen (h ∷ l) = (is_in same_symbol h seen ≡ false) × Distinct (h ∷ seen) l

-- "names .. may not begin with `lake__`" in lake mode
abbrev pub Unreserved : Mode → Symbol → Type 0
Unreserved m h = reserved m h ≡ false

-- a nonterminal has a rule; a lake needs none
abbrev pub Ruled : List Symbol → Symbol → Type 0
Ruled lefts (name w) = is_in same_symbol (name w) lefts ≡ true
Ruled lefts (lake w) = Unit {0}

pub record Readable (m : Mode) (rs : List Rule) : Type 0 where
  pub fine : FineRules m rs
  pub short : length (text rs) ≤ text_bound m
  pub narrow : Narrow m (yields rs)
  pub shallow : peak 0 (written rs) ≤ open_bound m
  pub once : Distinct [] (left_sides rs)
  pub free-lefts : All (Unreserved m) (left_sides rs)
  pub free-uses : All (Unreserved m) (uses_of rs)
  pub ruled : All (Ruled (left_sides rs)) (uses_of rs)
  pub few-symbols : length (symbols_of rs) ≤ symbol_bound
  pub few-terminals : length (terminals_of rs) ≤ terminal_bound
  pub few-expressions : expressions_of rs ≤ expression_bound m
