-- An expression by its words. Assumes nothing.
use Rattle.std.specs.Prelude.{ℕ, zero, suc, ◌-◌, ◌<◌, ◌≡◌, refl, List}
use Rattle.std.proofs.Common.{sym, ap, ◌∙◌, arith}
use Rattle.read_tokens.specs.Token.{Leaf}
use Rattle.grammar.specs.Exp.{Exp}
use Rattle.grammar_table.specs.Table.{op_of, left_of, right_of, leaf_in, node_by}
use Rattle.grammar_table.specs.Trees.{tree_of, below}
use Rattle.grammar_table.specs.laws.Trees.{node_at, below-le}
use Rattle.match_desk.specs.steps.Parts.{shape, Made}

node-shape : (k l r : ℕ) (leaf : ℕ → Leaf) (part : ℕ → Exp ℕ) → shape k (leaf l) l (part l) (part r) ≡ node_by k l r leaf part
unfolding shape node_by
node-shape zero l r leaf part = refl
node-shape (suc zero) l r leaf part = refl
node-shape (suc (suc zero)) l r leaf part = refl
node-shape (suc (suc (suc zero))) l r leaf part = refl
node-shape (suc (suc (suc (suc zero)))) l r leaf part = refl
node-shape (suc (suc (suc (suc (suc zero))))) l r leaf part = refl
node-shape (suc (suc (suc (suc (suc (suc zero)))))) l r leaf part = refl
node-shape (suc (suc (suc (suc (suc (suc (suc zero))))))) l r leaf part = refl
node-shape (suc (suc (suc (suc (suc (suc (suc (suc k)))))))) l r leaf part = refl

-- the tree of an expression of a known kind
pub shaped : (t : List ℕ) (x k l y z j : ℕ) → Made t x k l y z → k ≡ j → shape j (leaf_in t l) l (tree_of t y) (tree_of t z) ≡ tree_of t x
shaped t x k l y z j made e = ap (λ (i : ℕ). shape i (leaf_in t l) l (tree_of t y) (tree_of t z)) (sym e) ∙ made.tree

-- the words of expression x - 1, as code has read them
pub made_of : (t : List ℕ) (x k l r y z : ℕ) → 0 < x → k ≡ op_of t (x - 1) → l ≡ left_of t (x - 1) → r ≡ right_of t (x - 1)
    → l < 4294967296 → y ≡ below l (x - 1) → z ≡ below r (x - 1) → Made t x k l y z
made_of t x k l r y z o a b c e f g =
    record {
      tree =
          ap (λ (j : ℕ). shape k (leaf_in t l) l (tree_of t j) (tree_of t z)) f ∙ ap (λ (j : ℕ). shape k (leaf_in t l) l (tree_of t (below l (x - 1))) (tree_of t j)) g
          ∙ node-shape k l r (leaf_in t) (λ (j : ℕ). tree_of t (below j (x - 1)))
          ∙ node_at t x k l r (λ j. omega (arith, j)) a b c;
      left = omega (arith, f, below-le l (x - 1));
      right = omega (arith, g, below-le r (x - 1));
      small = e;
      kind = a;
      first = f ∙ ap (λ (j : ℕ). below j (x - 1)) b;
      second = g ∙ ap (λ (j : ℕ). below j (x - 1)) c;
    }
