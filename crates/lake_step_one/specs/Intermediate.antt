-- Step 1: the intermediate body of each symbol (01, Lakes made plain; 02, §4). Assumes nothing: these are definitions.
use Rattle.std.specs.Prelude.{ℕ, Bool, true, false, List, [], ◌∷◌, get_or}
use Rattle.std.proofs.Math.Option.{Option, none}
use Rattle.read_tokens.specs.Token.{Symbol, name}
use Rattle.grammar.specs.Exp.{Exp}
use Rattle.grammar.specs.Same.{same_symbol, index_of}
use Rattle.grammar.specs.Numbers.{Grammar, is_lake}
use Rattle.grammar.specs.Lakes.{step_one}

-- the name `water`
abbrev pub water_name : Symbol
water_name = name (119 ∷ 97 ∷ 116 ∷ 101 ∷ 114 ∷ [])

-- the right side of `water`, if there is such a rule
unfoldable pub water_in : Grammar → Option (Exp ℕ)
water_in g = get_or g.rights (index_of same_symbol water_name g.names) none

abbrev pub intermediate_by : Bool → Option (Exp ℕ) → Option (Exp ℕ) → Option (Exp ℕ)
intermediate_by true w o = step_one w o
intermediate_by false w o = o

-- by symbol number: a nonterminal's right side, and each lake's by step 1; a lake may have none (02, §4)
unfoldable pub bodies_by : Option (Exp ℕ) → List Symbol → List (Option (Exp ℕ)) → List (Option (Exp ℕ))
bodies_by w [] os = []
bodies_by w (h ∷ hs) [] = []
bodies_by w (h ∷ hs) (o ∷ os) = intermediate_by (is_lake h) w o ∷ bodies_by w hs os

unfoldable pub intermediate : Grammar → List (Option (Exp ℕ))
intermediate g = bodies_by (water_in g) g.names g.rights
