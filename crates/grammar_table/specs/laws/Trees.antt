-- A tree by its words: how many levels are looked at does not matter once they are enough. Assumes nothing.
use Prim.Native.Nat.{ℕ, zero, suc, ◌+◌, ◌-◌, ◌*◌, ◌≤◌, ◌<◌}
use Rattle.std.proofs.Math.Path.{◌≡◌, refl, ap, fun_ext}
use Rattle.std.proofs.Common.{sym, ◌∙◌, arith, ltb-true, lt-ltb, le-ltb}
use Rattle.std.specs.Prelude.{Bool, cond, List, get_or}
use Rattle.std.proofs.Math.Bool.{true, false}
use Rattle.std.proofs.Math.Dec.{ltb}
use Rattle.read_tokens.specs.Token.{Leaf, any}
use Rattle.grammar.specs.Exp.{Exp, ter, never}
use Rattle.grammar_table.specs.Table.{op_of, left_of, right_of, leaf_in, node_by, tree_in, tree_at}
use Rattle.grammar_table.specs.Trees.{tree_of, below}

module _ (t : List ℕ) where
  same-fuel : (f g i : ℕ) → i < f → i < g → tree_in f t i ≡ tree_in g t i
  unfolding tree_in
  same-fuel zero g i h l = absurd (omega arith)
  same-fuel (suc f) zero i h l = absurd (omega arith)
  same-fuel (suc f) (suc g) i h l =
      ap (node_by (op_of t i) (left_of t i) (right_of t i) (leaf_in t)) (fun_ext (λ (j : ℕ). go j (ltb j i) refl (λ p. same-fuel f g j (omega arith) (omega arith))))
    where
      go : (j : ℕ) (b : Bool) → ltb j i ≡ b → (j < i → tree_in f t j ≡ tree_in g t j)
          → ◌≡◌ {A = Exp ℕ} (elim b as (λ c. Exp ℕ) [ true ↦ tree_in f t j | false ↦ ter any ]) (elim b as (λ c. Exp ℕ) [ true ↦ tree_in g t j | false ↦ ter any ])
      go j true e r = r (ltb-true j i e)
      go j false e r = refl

  -- the tree of e by its three words
  pub tree-node : (e : ℕ) → tree_at t e ≡ node_by (op_of t e) (left_of t e) (right_of t e) (leaf_in t) (λ i. tree_of t (below i e))
  unfolding tree_in
  tree-node e = ap (node_by (op_of t e) (left_of t e) (right_of t e) (leaf_in t)) (fun_ext (λ (i : ℕ). go i (ltb i e) refl))
    where
      go : (i : ℕ) (b : Bool) → ltb i e ≡ b → ◌≡◌ {A = Exp ℕ} (elim b as (λ c. Exp ℕ) [ true ↦ tree_in e t i | false ↦ ter any ]) (tree_of t (cond b (suc i) 0))
      go i true h = same-fuel e (suc i) i (ltb-true i e h) (omega arith)
      go i false h = refl

  -- the same, in the words that code has read
  pub node_at : (x k l r : ℕ) → (x ≡ 0 → ⊥) → k ≡ op_of t (x - 1) → l ≡ left_of t (x - 1) → r ≡ right_of t (x - 1)
      → node_by k l r (leaf_in t) (λ i. tree_of t (below i (x - 1))) ≡ tree_of t x
  node_at zero k l r f p q u = absurd (f refl)
  node_at (suc e) k l r f p q u =
      let z : suc e - 1 ≡ e = omega arith in
      ap (λ (j : ℕ). node_by j l r (leaf_in t) (λ i. tree_of t (below i (suc e - 1)))) (p ∙ ap (op_of t) z)
      ∙ ap (λ (j : ℕ). node_by (op_of t e) j r (leaf_in t) (λ i. tree_of t (below i (suc e - 1)))) (q ∙ ap (left_of t) z)
      ∙ ap (λ (j : ℕ). node_by (op_of t e) (left_of t e) j (leaf_in t) (λ i. tree_of t (below i (suc e - 1)))) (u ∙ ap (right_of t) z)
      ∙ ap (λ (j : ℕ). node_by (op_of t e) (left_of t e) (right_of t e) (leaf_in t) (λ i. tree_of t (below i j))) z
      ∙ sym (tree-node e)

pub below_in : (i e : ℕ) → i < e → i + 1 ≡ below i e
below_in i e h = rw (lt-ltb i e h) (omega arith)

pub below_out : (i e : ℕ) → e ≤ i → 0 ≡ below i e
below_out i e h = rw (le-ltb i e h)

-- a part has a smaller number
pub below-le : (i e : ℕ) → below i e ≤ e
below-le i e = go (ltb i e) refl
  where
    go : (b : Bool) → ltb i e ≡ b → cond b (suc i) 0 ≤ e
    go true h = ltb-true i e h
    go false h = omega arith

-- every kind from 8 on is `!`
pub node-never : (k l r : ℕ) (leaf : ℕ → Leaf) (part : ℕ → Exp ℕ) → (k ≡ 0 → ⊥) → (k ≡ 1 → ⊥) → (k ≡ 2 → ⊥) → (k ≡ 3 → ⊥) → (k ≡ 4 → ⊥) → (k ≡ 5 → ⊥) → (k ≡ 6 → ⊥) → (k ≡ 7 → ⊥)
    → never (part l) ≡ node_by k l r leaf part
unfolding node_by
node-never zero l r leaf part a b c d e f g h = absurd (a refl)
node-never (suc zero) l r leaf part a b c d e f g h = absurd (b refl)
node-never (suc (suc zero)) l r leaf part a b c d e f g h = absurd (c refl)
node-never (suc (suc (suc zero))) l r leaf part a b c d e f g h = absurd (d refl)
node-never (suc (suc (suc (suc zero)))) l r leaf part a b c d e f g h = absurd (e refl)
node-never (suc (suc (suc (suc (suc zero))))) l r leaf part a b c d e f g h = absurd (f refl)
node-never (suc (suc (suc (suc (suc (suc zero)))))) l r leaf part a b c d e f g h = absurd (g refl)
node-never (suc (suc (suc (suc (suc (suc (suc zero))))))) l r leaf part a b c d e f g h = absurd (h refl)
node-never (suc (suc (suc (suc (suc (suc (suc (suc k)))))))) l r leaf part a b c d e f g h = refl
