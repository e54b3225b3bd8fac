-- The intermediate grammar's table in the making, and what step 1 promises. Assumes nothing: these are definitions.
use Rattle.std.specs.Prelude.{ℕ, zero, suc, ◌+◌, ◌-◌, ◌*◌, ◌≤◌, ◌<◌, min, ◌≡◌, Bool, true, false, not, List, [], ◌∷◌, map, length, get_or, take, eqb}
use Rattle.std.proofs.Math.Option.{Option, none, some}
use Rattle.read_tokens.specs.Token.{Symbol, Leaf, name, lake, any, literal, class}
use Rattle.grammar.specs.Exp.{Exp}
use Rattle.grammar.specs.Numbers.{Grammar}
use Rattle.grammar.specs.Parts.{parts_all}
use Rattle.grammar_table.specs.Table.{table_words, expressions_at, symbols_at, symbol_words, symbol_count, symbol_word, part_in}
use Rattle.grammar_table.specs.Holds.{Holds, present, roots_from}
use Rattle.lake_step_one.specs.Intermediate.{intermediate, water_in}
use Rattle.grammar.specs.Numbers.{terminal_in}
use Rattle.lake_step_one.specs.Proper.{with_rights, middle}
use Rattle.grammar_table.specs.laws.Parts.{total}
use Rattle.lake_step_one.specs.steps.Runs.{nil, BodyAt}

-- behind a body that ends at b; 0: there is none
abbrev pub next_by : ℕ → ℕ → ℕ
next_by from zero = from
next_by from (suc b) = suc b

abbrev pub lake_at : List ℕ → ℕ → Bool
lake_at t r = not (eqb (symbol_word t r 0) 0)

-- the first r symbols have their new bodies: the expressions stand, and the words below the expressions are those of t but for the bodies' numbers
pub record MadeOf (t : List ℕ) (g : Grammar) (rights : List (Option (Exp ℕ))) (r from m : ℕ) (mid : List ℕ) : Type 0 where
  pub long : length mid ≡ table_words
  pub from_is : from ≡ total (present (take r g.rights))
  pub count : m ≡ total (present (take r rights))
  pub parts : (j : ℕ) → j < m → j < 1024 → part_in mid j ≡ get_or (parts_all (terminal_in g) 0 (present rights)) j nil
  pub roots : (s : ℕ) → s < r → total (present (take (suc s) rights)) < 4294967296 → symbol_word mid s 1 ≡ get_or (roots_from 0 rights) s 0
  pub low : (i : ℕ) → i < expressions_at → ((s : ℕ) → s < r → i ≡ symbols_at + symbol_words * s + 1 → ⊥) → get_or mid i 0 ≡ get_or t i 0

abbrev pub Made : List ℕ → Grammar → ℕ → ℕ → ℕ → List ℕ → Type 0
Made t g r from m mid = MadeOf t g (intermediate g) r from m mid

abbrev pub MadeNext : List ℕ → ℕ → ℕ → ℕ → ℕ → ℕ → List ℕ → ℕ → ℕ → List ℕ → Type 0
MadeNext t r wa wb from m mid from' m' mid' =
    (g : Grammar) → Holds t g → r < symbol_count t → BodyAt (terminal_in g) t wa wb (water_in g) → Made t g r from m mid
    → Made t g (r + 1) from' m' mid'

-- the run of water's right side
abbrev pub WaterAt : List ℕ → ℕ → ℕ → ℕ → Type 0
WaterAt t r wa wb = (g : Grammar) → Holds t g → r ≡ symbol_count t → BodyAt (terminal_in g) t wa wb (water_in g)

-- names and literals that fit their records
abbrev pub name_size : Symbol → ℕ
name_size (name w) = length w
name_size (lake w) = length w

abbrev pub leaf_size : Leaf → ℕ
leaf_size any = 0
leaf_size (literal w) = length w
leaf_size (class m) = 0

pub record Short (g : Grammar) : Type 0 where
  pub names : (r : ℕ) → r < length g.names → name_size (get_or g.names r (name [])) ≤ 38
  pub literals : (x : ℕ) → x < length g.terminals → leaf_size (get_or g.terminals x any) ≤ 256

-- g with a body for each symbol
abbrev pub with_bodies : Grammar → List (Exp ℕ) → Grammar
with_bodies g bodies = with_rights g (map some bodies)

-- step 1: the number of intermediate expressions, at most 1,025, and up to 1,024 the table of the intermediate grammar
abbrev pub SteppedOne : List ℕ → List ℕ → ℕ → Type 0
SteppedOne t mid k =
    (g : Grammar) → Holds t g → Short g → (k ≡ min 1025 (total (present (intermediate g))))
    × (total (present (intermediate g)) ≤ 1024 → Holds mid (middle g))

abbrev pub BuiltAll : List ℕ → ℕ → ℕ → ℕ → List ℕ → ℕ → List ℕ → Type 0
BuiltAll t r wa wb mid m mid' =
    (g : Grammar) → Holds t g → r ≡ symbol_count t → BodyAt (terminal_in g) t wa wb (water_in g) → Made t g 0 0 0 mid → (from : ℕ) × Made t g r from m mid'
