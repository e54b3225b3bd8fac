-- The translation as it was before 02, §4 (01, Lakes made plain, step 1: "or `!.` where there is no such rule"). It is here to say that every grammar that was
-- accepted then is accepted now (laws/Accepted); nothing else speaks of it. Assumes nothing: these are definitions.
use Rattle.std.specs.Prelude.{ℕ, suc, ◌-◌, Bool, true, false, List, [], ◌∷◌, map, get_or}
use Rattle.std.proofs.Math.Option.{Option, none, some}
use Rattle.read_tokens.specs.Token.{Symbol, any}
use Rattle.grammar.specs.Exp.{Exp, ter, alt, never}
use Rattle.grammar.specs.Lakes.{skip_of}
use Rattle.grammar.specs.Numbers.{Grammar, is_lake}
use Rattle.base_words.specs.Set.{empty}
use Rattle.lake_step_one.specs.Intermediate.{water_in}
use Rattle.lake_step_one.specs.Proper.{with_rights}
use Rattle.lake_rules.specs.Analysis.{Analysis, analysis_in}
use Rattle.lake_plain.specs.Plain.{alternatives, right_or}

-- w: "a copy of the right side of `water`, or `!.` where there is no such rule"
abbrev pub water_before : Option (Exp ℕ) → Exp ℕ
water_before none = never (ter any)
water_before (some w) = w

-- "each lake body becomes `e / w`"; "a lake without a rule becomes `w`"
abbrev pub one_before : Option (Exp ℕ) → Option (Exp ℕ) → Exp ℕ
one_before w none = water_before w
one_before w (some e) = alt e (water_before w)

abbrev pub body_before : Bool → Option (Exp ℕ) → Option (Exp ℕ) → Exp ℕ
body_before true w o = one_before w o
body_before false w o = right_or o

-- the intermediate bodies: every symbol had one
unfoldable pub bodies_before : Option (Exp ℕ) → List Symbol → List (Option (Exp ℕ)) → List (Exp ℕ)
bodies_before w [] os = []
bodies_before w (h ∷ hs) [] = []
bodies_before w (h ∷ hs) (o ∷ os) = body_before (is_lake h) w o ∷ bodies_before w hs os

abbrev pub middle_before : Grammar → Grammar
middle_before g = with_rights g (map some (bodies_before (water_in g) g.names g.rights))

-- a lake's alternatives came from ALT of its body; a root is 1 + the number of the body
abbrev pub alt_before : Analysis → ℕ → List ℕ
alt_before a r = get_or a.alts (get_or a.roots r 0 - 1) empty

-- "lake body b becomes `b / !(s1 / .. / sn) .`"
abbrev pub two_before : Bool → Exp ℕ → List (Exp ℕ) → Exp ℕ
two_before true b ss = alt b (skip_of ss)
two_before false b ss = b

unfoldable pub plain_from_before : Grammar → Analysis → ℕ → List Symbol → List (Exp ℕ) → List (Exp ℕ)
plain_from_before g a r [] bs = []
plain_from_before g a r (h ∷ hs) [] = []
plain_from_before g a r (h ∷ hs) (b ∷ bs) = two_before (is_lake h) b (alternatives g (alt_before a r)) ∷ plain_from_before g a (suc r) hs bs

-- the plain bodies, of which 7 and 8 speak
unfoldable pub plain_before : Grammar → List (Exp ℕ)
plain_before g = plain_from_before g (analysis_in (middle_before g)) 0 g.names (bodies_before (water_in g) g.names g.rights)
