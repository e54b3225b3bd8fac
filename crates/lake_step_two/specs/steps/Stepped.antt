-- The plain grammar's table in the making, and what step 2 promises (01, Lakes made plain). Assumes nothing: these are definitions.
use Rattle.std.specs.Prelude.{ℕ, zero, suc, ◌+◌, ◌≤◌, ◌<◌, min, ◌≡◌, List, [], ◌∷◌, map, length, get_or, take}
use Rattle.std.proofs.Math.Option.{some}
use Rattle.read_tokens.specs.Token.{any}
use Rattle.grammar.specs.Exp.{Exp}
use Rattle.grammar.specs.Numbers.{Grammar}
use Rattle.grammar_table.specs.Table.{symbol_count, terminal_count, expression_count}
use Rattle.grammar_table.specs.Holds.{Holds}
use Rattle.lake_rules.specs.Analysis.{analysis}
use Rattle.grammar.specs.Numbers.{terminal_in}
use Rattle.lake_step_one.specs.Proper.{Proper, middle}
use Rattle.grammar_table.specs.laws.Parts.{total}
use Rattle.lake_step_one.specs.steps.Made.{MadeOf, with_bodies, Short}
use Rattle.lake_plain.specs.Plain.{plain_bodies}

-- each terminal stands once, `.` first
pub record Once (g : Grammar) : Type 0 where
  pub dot : terminal_in g any ≡ 0
  pub each-its : (x : ℕ) → x < length g.terminals → terminal_in g (get_or g.terminals x any) ≡ x

-- t holds the intermediate grammar of g, and its ALT sets stand at the front of alts
pub record Ready (t : List ℕ) (alts : List (List ℕ)) (g : Grammar) : Type 0 where
  pub holds : Holds t (middle g)
  pub proper : Proper g
  pub once : Once g
  pub alts-are : take (expression_count t) alts ≡ (analysis g).alts

-- the bodies after step 2
abbrev pub plain_of : Grammar → List (Exp ℕ)
plain_of g = plain_bodies g (analysis g)

-- the first s symbols have their plain bodies
abbrev pub PlainMade : List ℕ → Grammar → ℕ → ℕ → ℕ → List ℕ → Type 0
PlainMade t g s from m out = MadeOf t (middle g) (map some (plain_of g)) s from m out

abbrev pub PlainNext : List ℕ → List (List ℕ) → ℕ → ℕ → ℕ → ℕ → ℕ → List ℕ → ℕ → ℕ → List ℕ → Type 0
PlainNext t alts r x s from m out from' m' out' =
    (g : Grammar) → Ready t alts g → r ≡ symbol_count t → x ≡ terminal_count t → s < symbol_count t → PlainMade t g s from m out
    → PlainMade t g (s + 1) from' m' out'

abbrev pub PlainAll : List ℕ → List (List ℕ) → ℕ → ℕ → List ℕ → ℕ → List ℕ → Type 0
PlainAll t alts r x out m out' =
    (g : Grammar) → Ready t alts g → r ≡ symbol_count t → x ≡ terminal_count t → PlainMade t g 0 0 0 out → (from : ℕ) × PlainMade t g r from m out'

-- step 2: the number of plain expressions, at most 1,025, and up to 1,024 the table of the plain grammar
abbrev pub SteppedTwo : List ℕ → List (List ℕ) → List ℕ → ℕ → Type 0
SteppedTwo t alts out k =
    (g : Grammar) → Ready t alts g → Short g → (k ≡ min 1025 (total (plain_of g))) × (total (plain_of g) ≤ 1024 → Holds out (with_bodies g (plain_of g)))
