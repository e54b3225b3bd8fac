-- What code says of the ε marks of a table's symbols and of the smallest symbol on a loop, where the bodies' symbols have a bit in a word and no
-- literal is empty.
-- Assumes nothing: these are definitions.
use Rattle.std.specs.Prelude.{ℕ, ◌≤◌, ◌<◌, ◌≡◌, Bool, false, List, Option, length, replicate}
use Rattle.read_tokens.specs.Token.{Leaf}
use Rattle.grammar.specs.Exp.{Exp}
use Rattle.grammar.specs.Numbers.{Grammar}
use Rattle.grammar_table.specs.Table.{symbol_word, up_to}
use Rattle.grammar.specs.Empty.{has_empty}
use Rattle.grammar_table.specs.Holds.{Holds}
use Rattle.base_rounds.specs.Rounds.{iter}
use Rattle.grammar.specs.Numbers.{terminal_in}
use Rattle.lake_rules.specs.Beginning.{marked}
use Rattle.lake_step_one.specs.Proper.{Sound, SoundAll}
use Rattle.lake_step_one.specs.steps.Made.{with_bodies}
use Rattle.lake_plain.specs.Calls.{loop}
use Rattle.grammar_table.specs.Trees.{tree_of}
use Rattle.lake_calls.specs.steps.Place.{placed, found}

-- one round of the marks of the symbols below n
abbrev pub empty_round : List ℕ → ℕ → List Bool → List Bool
empty_round t n ms = up_to (λ i. has_empty (marked ms) (tree_of t (symbol_word t i 1))) n

-- the bodies of the symbols below n
abbrev pub SoundIn : (Leaf → ℕ) → ℕ → ℕ → List ℕ → ℕ → Type 0
SoundIn number r x t n = (i : ℕ) → i < n → Sound number r x (tree_of t (symbol_word t i 1))

pub record Round (t : List ℕ) (n : ℕ) (ms next : List Bool) : Type 0 where
  pub are : (number : Leaf → ℕ) (r x : ℕ) → r ≤ 64 → SoundIn number r x t n → next ≡ empty_round t n ms

-- after k rounds, from no mark on
abbrev pub After : List ℕ → ℕ → ℕ → List Bool → Type 0
After t n k marks = (number : Leaf → ℕ) (r x : ℕ) → r ≤ 64 → SoundIn number r x t n → marks ≡ iter (empty_round t n) (replicate n false) k

-- "All are least": as many rounds as there are symbols
pub record AllMarks (t : List ℕ) (n : ℕ) (marks : List Bool) : Type 0 where
  pub are : After t n n marks

-- of the n symbols of a table that holds a grammar with these bodies
pub record Looped (t : List ℕ) (n : ℕ) (at : Option ℕ) : Type 0 where
  pub is : (g : Grammar) (bodies : List (Exp ℕ)) → Holds t (with_bodies g bodies)
      → SoundAll (terminal_in g) (length g.names) (length g.terminals) bodies → n ≡ length bodies → found at ≡ loop bodies

-- of a table that holds a grammar with these bodies
pub record LoopedAll (t : List ℕ) (at : ℕ) : Type 0 where
  pub is : (g : Grammar) (bodies : List (Exp ℕ)) → Holds t (with_bodies g bodies)
      → SoundAll (terminal_in g) (length g.names) (length g.terminals) bodies → at ≡ placed (length bodies) (loop bodies)
