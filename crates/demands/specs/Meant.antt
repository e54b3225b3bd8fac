-- What the symbols of a grammar text stand for, its lakes as lakes: what demand 2 holds a match to (01, Meaning of a match; 01, Lakes made plain).
-- Assumes nothing: these are definitions.
use Rattle.std.specs.Prelude.{ℕ, Bool, true, false, List, [], length, get_or, ltb}
use Rattle.std.proofs.Math.Option.{Option, none}
use Rattle.read_tokens.specs.declared.Mode.{Mode}
use Rattle.read_tokens.specs.Token.{name}
use Rattle.grammar.specs.Exp.{Exp}
use Rattle.grammar.specs.Numbers.{Grammar, is_lake}
use Rattle.lake_step_one.specs.Intermediate.{water_in}
use Rattle.lake_rules.specs.Analysis.{Analysis, lake_alt}
use Rattle.lake_plain.specs.Plain.{alternatives, right_or}
use Rattle.match_meaning.specs.Meaning.{SymbolBody, rule, lake, Meant}
use Rattle.match_eval.specs.Eval.{nowhere}
use Rattle.prepare.specs.Prepare.{prepared}

-- a lake is its own right side, if it has a rule, and its alternative symbols; a nonterminal is its right side: it has one (laws/Ruled.antt)
abbrev pub stands_for : Bool → Option (Exp ℕ) → List (Exp ℕ) → SymbolBody
stands_for true o ss = lake o ss
stands_for false o ss = rule (right_or o)

-- the right side of symbol r, if it has a rule
abbrev pub right_at : Grammar → ℕ → Option (Exp ℕ)
right_at g r = get_or g.rights r none

-- "the s being the nonterminals of ALT(b) by number, then its terminals by number. Lakes in ALT(b) are dropped; only the s are the lake's alternative
-- symbols, in the match too"
abbrev pub alternatives_at : Grammar → Analysis → ℕ → List (Exp ℕ)
alternatives_at g a r = alternatives g (lake_alt a r)

-- a symbol that there is not matches nowhere
abbrev pub stands_in : Bool → Grammar → Analysis → ℕ → SymbolBody
stands_in true g a r = stands_for (is_lake (get_or g.names r (name []))) (right_at g r) (alternatives_at g a r)
stands_in false g a r = rule nowhere

abbrev pub meant_of : Grammar → Analysis → Meant
meant_of g a = record { body = λ (r : ℕ). stands_in (ltb r (length g.names)) g a r; water = water_in g }

-- of a grammar text
abbrev pub meant : Mode → List ℕ → Meant
meant m t = meant_of (prepared m t).grammar (prepared m t).analysis
