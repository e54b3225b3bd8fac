-- What an expression of a table takes, by its words. Assumes nothing.
use Rattle.std.specs.Prelude.{ℕ, ◌-◌, ◌≡◌, refl, List}
use Rattle.std.proofs.Common.{sym, ap}
use Rattle.grammar.specs.Exp.{Exp}
use Rattle.grammar_table.specs.Table.{op_of, left_of, right_of, leaf_in, node_by}
use Rattle.read_tokens.specs.Token.{any}
use Rattle.match_eval.specs.Eval.{leaf_at, ev}
use Rattle.grammar_table.specs.Trees.{tree_of, below}
use Rattle.grammar_table.specs.laws.Trees.{node_at}

-- `.`, which is no expression of the table
pub zero-tree : (s cs t : List ℕ) (n x p : ℕ) → x ≡ 0 → leaf_at s any p ≡ ev s cs n (tree_of t x) p
unfolding ev
zero-tree s cs t n x p z = ap (λ (y : ℕ). ev s cs n (tree_of t y) p) (sym z)

-- what an expression takes is what the node of its words takes
pub node-ev : (s cs t : List ℕ) (n x p k l : ℕ) → (x ≡ 0 → ⊥) → k ≡ op_of t (x - 1) → l ≡ left_of t (x - 1)
    → ev s cs n (node_by k l (right_of t (x - 1)) (leaf_in t) (λ i. tree_of t (below i (x - 1)))) p ≡ ev s cs n (tree_of t x) p
node-ev s cs t n x p k l f u v = ap (λ (y : Exp ℕ). ev s cs n y p) (node_at t x k l (right_of t (x - 1)) f u v refl)
