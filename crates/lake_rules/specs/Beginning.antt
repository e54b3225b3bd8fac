-- BEGINNING, with ε apart as a mark (01, Lakes made plain; 02, §4). Assumes nothing: these are definitions.
use Rattle.std.specs.Prelude.{ℕ, zero, suc, Bool, true, false, cond, ◌&&◌, ◌||◌, List, [], ◌∷◌, ◌++◌, map, length, get_or, replicate}
use Rattle.std.proofs.Math.Option.{Option, none, some}
use Rattle.grammar.specs.Exp.{Exp}
use Rattle.grammar.specs.Empty.{has_empty}
use Rattle.base_words.specs.Set.{union_of, empty, symbol_set, terminal_set}
use Rattle.base_rounds.specs.Rounds.{iter}
use Rattle.grammar.specs.Parts.{Part, terminal, occurs, sequence, choice, option, repeat, repeat1, affirms, denies}

abbrev pub marked : List Bool → ℕ → Bool
marked ms r = get_or ms r false

-- "ε if X's body has ε", all symbols at once; has: whether a body has ε, given the symbols' marks
unfoldable pub mark_round : {B : Type 0} → ((ℕ → Bool) → B → Bool) → List B → List Bool → List Bool
mark_round has bodies ms = map (has (marked ms)) bodies

-- "All are least": from no mark on, as many rounds as there are symbols
unfoldable pub marks_by : {B : Type 0} → ((ℕ → Bool) → B → Bool) → List B → List Bool
marks_by has bodies = iter (mark_round has bodies) (replicate (length bodies) false) (length bodies)

-- where every symbol has a body
unfoldable pub marks_of : List (Exp ℕ) → List Bool
marks_of bodies = marks_by has_empty bodies

-- where a lake may have none: it has no ε then (02, §4: "Such a lake has ε only if its own rule has")
abbrev pub right_empty : (ℕ → Bool) → Option (Exp ℕ) → Bool
right_empty m none = false
right_empty m (some e) = has_empty m e

-- B, which is BEGINNING without ε, and whether it has ε
pub record Beginning : Type 0 where
  pub set : List ℕ
  pub eps : Bool

abbrev pub begin : List ℕ → Bool → Beginning
begin s e = record { set = s; eps = e }

abbrev pub nothing : Beginning
nothing = begin empty false

-- "Sequence a b: a's; if a has ε, a's without ε, and b's"
abbrev pub begin_sequence : Beginning → Beginning → Beginning
begin_sequence a b = begin (cond a.eps (union_of a.set b.set) a.set) (a.eps && b.eps)

abbrev pub begin_choice : Beginning → Beginning → Beginning
begin_choice a b = begin (union_of a.set b.set) (a.eps || b.eps)

-- ε of a symbol's body by its root: 0 where it has none, else 1 + the number of its expression
abbrev pub root_eps : (ℕ → Beginning) → ℕ → Bool
root_eps at zero = false
root_eps at (suc e) = (at e).eps

-- of an expression, where `at` gives its parts' and m the symbols' marks
abbrev pub begin_by : (ℕ → Bool) → (ℕ → Beginning) → Part → Beginning
begin_by m at (terminal t) = begin (terminal_set t) false
begin_by m at (occurs r) = begin (symbol_set r) (m r)
begin_by m at (sequence i j) = begin_sequence (at i) (at j)
begin_by m at (choice i j) = begin_choice (at i) (at j)
begin_by m at (option i) = begin (at i).set true
begin_by m at (repeat i) = begin (at i).set true
begin_by m at (repeat1 i) = at i
begin_by m at (affirms i) = begin empty true
begin_by m at (denies i) = begin empty true

-- of all expressions, parts before wholes: `done` are those of the expressions before
unfoldable pub beginnings_from : (ℕ → Bool) → List Beginning → List Part → List Beginning
beginnings_from m done [] = done
beginnings_from m done (p ∷ ps) = beginnings_from m (done ++ (begin_by m (λ i. get_or done i nothing) p ∷ [])) ps

unfoldable pub beginnings : (ℕ → Bool) → List Part → List Beginning
beginnings m ps = beginnings_from m [] ps
