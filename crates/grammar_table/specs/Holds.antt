-- What it means that a table holds a grammar: the layers' common ground. Assumes nothing: these are definitions.
use Rattle.std.specs.Prelude.{ℕ, suc, ◌≤◌, ◌+◌, ◌≡◌, List, [], ◌∷◌, length}
use Rattle.std.proofs.Math.Option.{Option, none, some}
use Rattle.read_tokens.specs.Token.{Symbol, Leaf}
use Rattle.grammar.specs.Exp.{Exp, size}
use Rattle.grammar.specs.Same.{same_leaf, index_of}
use Rattle.grammar.specs.Numbers.{Grammar}
use Rattle.grammar.specs.Parts.{Part, parts_all, last}
use Rattle.grammar_table.specs.Table.{table_words, symbol_count, terminal_count, expression_count, name_in, leaf_in, parts_in, roots_in, up_to}

-- the right sides that there are, in order
unfoldable pub present : List (Option (Exp ℕ)) → List (Exp ℕ)
present [] = []
present (none ∷ os) = present os
present (some e ∷ os) = e ∷ present os

-- by symbol, behind `before` expressions: 0 where there is no right side, else 1 + the number of its expression
unfoldable pub roots_from : ℕ → List (Option (Exp ℕ)) → List ℕ
roots_from o [] = []
roots_from o (none ∷ os) = 0 ∷ roots_from o os
roots_from o (some e ∷ os) = suc (last o e) ∷ roots_from (o + size e) os

pub record Holds (t : List ℕ) (g : Grammar) : Type 0 where
  pub long : length t ≡ table_words
  pub few-symbols : symbol_count t ≤ 64
  pub few-terminals : terminal_count t ≤ 64
  pub few-expressions : expression_count t ≤ 1024
  pub names : up_to (name_in t) (symbol_count t) ≡ g.names
  pub terminals : up_to (leaf_in t) (terminal_count t) ≡ g.terminals
  pub parts : parts_in t ≡ parts_all (λ x. index_of same_leaf x g.terminals) 0 (present g.rights)
  pub roots : roots_in t ≡ roots_from 0 g.rights
