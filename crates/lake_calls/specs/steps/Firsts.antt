-- What code says of an expression's first calls and of its ε, where its symbols have a bit in a word and no literal is empty.
-- Assumes nothing: these are definitions.
use Rattle.std.specs.Prelude.{ℕ, ◌≤◌, ◌<◌, ◌≡◌, Bool, List}
use Rattle.read_tokens.specs.Token.{Leaf}
use Rattle.grammar.specs.Exp.{Exp}
use Rattle.grammar_table.specs.Table.{symbol_word, up_to}
use Rattle.grammar.specs.Empty.{has_empty}
use Rattle.lake_step_one.specs.Proper.{Sound}
use Rattle.lake_plain.specs.Calls.{first_calls}
use Rattle.grammar_table.specs.Trees.{tree_of}

pub record Firsts (m : ℕ → Bool) (e : Exp ℕ) (calls : ℕ) (empty : Bool) : Type 0 where
  pub are : (number : Leaf → ℕ) (r x : ℕ) → r ≤ 64 → Sound number r x e → (calls ≡ first_calls m e) × (empty ≡ has_empty m e)

-- of the bodies of a table's symbols below n, by number
pub record AllFirsts (t : List ℕ) (m : ℕ → Bool) (n : ℕ) (calls : List ℕ) : Type 0 where
  pub are : (number : Leaf → ℕ) (r x : ℕ) → r ≤ 64 → ((i : ℕ) → i < n → Sound number r x (tree_of t (symbol_word t i 1)))
      → calls ≡ up_to (λ i. first_calls m (tree_of t (symbol_word t i 1))) n
