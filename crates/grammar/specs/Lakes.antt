-- One lake's body made plain, and its name (01, Lakes made plain; 01, Writing; 02, §4). Assumes nothing: these are definitions.
use Rattle.std.specs.Prelude.{ℕ, List, [], ◌∷◌}
use Rattle.std.proofs.Math.Option.{Option, none, some}
use Rattle.read_tokens.specs.Token.{Symbol, name, lake, any}
use Rattle.grammar.specs.Exp.{Exp, ter, seq, alt, never}

-- Step 1: the intermediate body of a lake, first the right side of `water`, then the lake's own. "Each lake body becomes `e / w`", w "a copy of the
-- right side of `water`"; "a lake without a rule becomes `w`" (01). "With no `water` rule, append nothing: a lake's body is its own rule or none" (02, §4)
unfoldable pub step_one : Option (Exp ℕ) → Option (Exp ℕ) → Option (Exp ℕ)
step_one none o = o
step_one (some w) none = some w
step_one (some w) (some e) = some (alt e w)

-- `s1 / .. / sn`, which associates to the left
unfoldable pub choice_of : Exp ℕ → List (Exp ℕ) → Exp ℕ
choice_of a [] = a
choice_of a (b ∷ bs) = choice_of (alt a b) bs

-- `!(s1 / .. / sn) .`; "`.` when no alternatives are left" (02, §4)
unfoldable pub skip_of : List (Exp ℕ) → Exp ℕ
skip_of [] = ter any
skip_of (a ∷ bs) = seq (never (choice_of a bs)) (ter any)

-- Step 2: "lake body b becomes `b / !(s1 / .. / sn) .`" (01), "or just `!(..) .`" where there is no body (02, §4)
unfoldable pub step_two : Option (Exp ℕ) → List (Exp ℕ) → Exp ℕ
step_two none ss = skip_of ss
step_two (some b) ss = alt b (skip_of ss)

-- "`<x>` is written `lake__x` in plain"
unfoldable pub plain_name : Symbol → Symbol
plain_name (name w) = name w
plain_name (lake w) = name (108 ∷ 97 ∷ 107 ∷ 101 ∷ 95 ∷ 95 ∷ w)
