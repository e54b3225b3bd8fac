-- The text of an expression by the words that code has read. Assumes nothing.
use Rattle.std.specs.Prelude.{ℕ, zero, suc, ◌+◌, ◌-◌, ◌*◌, ◌≤◌, ◌<◌, ◌≡◌, refl, Bool, true, false, List, [], ◌∷◌, ◌++◌, ltb, get_or}
use Rattle.std.proofs.Common.{sym, ◌∙◌, arith, lt-ltb, le-ltb}
use Rattle.std.proofs.Math.Path.{ap}
use Rattle.read_tokens.specs.Token.{Symbol, Leaf, any}
use Rattle.grammar.specs.Exp.{Exp, sym as symbol, ter, seq, alt, opt, star, plus, ahead, never}
use Rattle.grammar_table.specs.Table.{op_of, left_of, right_of, node_by, leaf_in}
use Rattle.grammar_table.specs.Trees.{tree_of, below}
use Rattle.grammar_table.specs.laws.Trees.{node_at, node-never}
use Rattle.write_rules.specs.Writing.{level, wrap, put, symbol_text, leaf_text, expr_text}
use Rattle.write_leaves.specs.steps.Printed.{low_leaf, toned}

-- an expression is the node of its words
pub node-is : (t : List ℕ) (x k l : ℕ) → (x ≡ 0 → ⊥) → k ≡ op_of t (x - 1) → l ≡ left_of t (x - 1)
    → node_by k l (right_of t (x - 1)) (leaf_in t) (λ i. tree_of t (below i (x - 1))) ≡ tree_of t x
node-is t x k l f u v =
    node_at t x k l (right_of t (x - 1)) f u v refl

pub never-is : (t : List ℕ) (x k l : ℕ) → (x ≡ 0 → ⊥) → k ≡ op_of t (x - 1) → l ≡ left_of t (x - 1)
    → (k ≡ 0 → ⊥) → (k ≡ 1 → ⊥) → (k ≡ 2 → ⊥) → (k ≡ 3 → ⊥) → (k ≡ 4 → ⊥) → (k ≡ 5 → ⊥) → (k ≡ 6 → ⊥) → (k ≡ 7 → ⊥) → never (tree_of t (below l (x - 1))) ≡ tree_of t x
never-is t x k l f u v a b c d e g h i =
    node-never k l (right_of t (x - 1)) (leaf_in t) (λ j. tree_of t (below j (x - 1))) a b c d e g h i ∙ node-is t x k l f u v

-- the text of what is the same
pub text-is : (f : ℕ → Symbol) (a b : Exp ℕ) → a ≡ b → expr_text (toned f a) ≡ expr_text (toned f b)
text-is f a b e = ap (λ (x : Exp ℕ). expr_text (toned f x)) e

-- in parentheses or bare
pub in_pair : (k : ℕ) (e : Exp Symbol) (l : ℕ) → l ≡ level e → l < k → (40 ∷ []) ++ (expr_text e ++ (41 ∷ [])) ≡ put k e (expr_text e)
in_pair k e l q h = sym (ap (λ (b : Bool). wrap b (expr_text e)) (lt-ltb (level e) k (omega (arith, q, h))))

pub is-bare : (k : ℕ) (e : Exp Symbol) (l : ℕ) → l ≡ level e → k ≤ l → expr_text e ≡ put k e (expr_text e)
is-bare k e l q h = sym (ap (λ (b : Bool). wrap b (expr_text e)) (le-ltb (level e) k (omega (arith, q, h))))

-- ── levels by kinds ──
abbrev pub level_by : ℕ → ℕ
level_by zero = 4
level_by (suc zero) = 4
level_by (suc (suc zero)) = 1
level_by (suc (suc (suc zero))) = 0
level_by (suc (suc (suc (suc zero)))) = 3
level_by (suc (suc (suc (suc (suc zero))))) = 3
level_by (suc (suc (suc (suc (suc (suc zero)))))) = 3
level_by (suc (suc (suc (suc (suc (suc (suc k))))))) = 2

pub level-is : (f : ℕ → Symbol) (k l r : ℕ) (leaf : ℕ → Leaf) (part : ℕ → Exp ℕ) → level_by k ≡ level (toned f (node_by k l r leaf part))
unfolding toned node_by
level-is f zero l r leaf part = refl
level-is f (suc zero) l r leaf part = refl
level-is f (suc (suc zero)) l r leaf part = refl
level-is f (suc (suc (suc zero))) l r leaf part = refl
level-is f (suc (suc (suc (suc zero)))) l r leaf part = refl
level-is f (suc (suc (suc (suc (suc zero))))) l r leaf part = refl
level-is f (suc (suc (suc (suc (suc (suc zero)))))) l r leaf part = refl
level-is f (suc (suc (suc (suc (suc (suc (suc zero))))))) l r leaf part = refl
level-is f (suc (suc (suc (suc (suc (suc (suc (suc k)))))))) l r leaf part = refl

pub zero-level : (t : List ℕ) (f : ℕ → Symbol) (x : ℕ) → x ≡ 0 → 4 ≡ level (toned f (tree_of t x))
unfolding toned
zero-level t f x z = ap (λ (y : ℕ). level (toned f (tree_of t y))) (sym z)

pub kind-level : (t : List ℕ) (f : ℕ → Symbol) (x k : ℕ) → (x ≡ 0 → ⊥) → k ≡ op_of t (x - 1) → level_by k ≡ level (toned f (tree_of t x))
kind-level t f x k g u =
    level-is f k (left_of t (x - 1)) (right_of t (x - 1)) (leaf_in t) (λ i. tree_of t (below i (x - 1)))
    ∙ ap (λ (e : Exp ℕ). level (toned f e)) (node-is t x k (left_of t (x - 1)) g u refl)

pub tight : (k : ℕ) → k < 2 → 4 ≡ level_by k
tight zero h = refl
tight (suc zero) h = refl
tight (suc (suc k)) h = absurd (omega arith)

pub suffixes : (k : ℕ) → (k ≡ 2 → ⊥) → (k ≡ 3 → ⊥) → 2 ≤ k → k < 7 → 3 ≡ level_by k
suffixes zero a b h l = absurd (omega arith)
suffixes (suc zero) a b h l = absurd (omega arith)
suffixes (suc (suc zero)) a b h l = absurd (a refl)
suffixes (suc (suc (suc zero))) a b h l = absurd (b refl)
suffixes (suc (suc (suc (suc zero)))) a b h l = refl
suffixes (suc (suc (suc (suc (suc zero))))) a b h l = refl
suffixes (suc (suc (suc (suc (suc (suc zero)))))) a b h l = refl
suffixes (suc (suc (suc (suc (suc (suc (suc k))))))) a b h l = absurd (omega arith)

pub prefixes : (k : ℕ) → 7 ≤ k → 2 ≡ level_by k
prefixes zero h = absurd (omega arith)
prefixes (suc zero) h = absurd (omega arith)
prefixes (suc (suc zero)) h = absurd (omega arith)
prefixes (suc (suc (suc zero))) h = absurd (omega arith)
prefixes (suc (suc (suc (suc zero)))) h = absurd (omega arith)
prefixes (suc (suc (suc (suc (suc zero))))) h = absurd (omega arith)
prefixes (suc (suc (suc (suc (suc (suc zero)))))) h = absurd (omega arith)
prefixes (suc (suc (suc (suc (suc (suc (suc k))))))) h = refl

-- ── the text of an expression by its kind, from the texts of its parts ──
abbrev pub shown : (ℕ → Symbol) → List ℕ → ℕ → ℕ → List ℕ
shown f t k y = put k (toned f (tree_of t y)) (expr_text (toned f (tree_of t y)))

pub zero-text : (t : List ℕ) (f : ℕ → Symbol) (x : ℕ) → x ≡ 0 → 46 ∷ [] ≡ expr_text (toned f (tree_of t x))
unfolding toned expr_text leaf_text
zero-text t f x z = ap (λ (y : ℕ). expr_text (toned f (tree_of t y))) (sym z)

module _ (t : List ℕ) (f : ℕ → Symbol) (x k l : ℕ) (n : x ≡ 0 → ⊥) (u : k ≡ op_of t (x - 1)) (v : l ≡ left_of t (x - 1)) where
  abbrev whole : List ℕ
  whole = expr_text (toned f (tree_of t x))

  -- the node by its kind
  kind-text : (j : ℕ) → k ≡ j → expr_text (toned f (node_by j l (right_of t (x - 1)) (leaf_in t) (λ i. tree_of t (below i (x - 1))))) ≡ whole
  kind-text j e = text-is f _ _ (node-is t x j l n (sym e ∙ u) v)

  pub leaf-text : k ≡ 0 → leaf_text (low_leaf (leaf_in t l)) ≡ whole
  unfolding toned expr_text node_by
  leaf-text e = kind-text 0 e

  pub sym-text : k ≡ 1 → symbol_text (f l) ≡ whole
  unfolding toned expr_text node_by
  sym-text e = kind-text 1 e

  module _ (y : ℕ) (p : y ≡ below l (x - 1)) where
    pub seq-text : (r z : ℕ) → r ≡ right_of t (x - 1) → z ≡ below r (x - 1) → k ≡ 2 → shown f t 1 y ++ ((32 ∷ []) ++ shown f t 2 z) ≡ whole
    unfolding toned expr_text node_by
    seq-text r z g q e =
        ap (λ (i : ℕ). shown f t 1 i ++ ((32 ∷ []) ++ shown f t 2 z)) p
        ∙ ap (λ (i : ℕ). shown f t 1 (below l (x - 1)) ++ ((32 ∷ []) ++ shown f t 2 i)) (q ∙ ap (λ (j : ℕ). below j (x - 1)) g)
        ∙ kind-text 2 e

    pub alt-text : (r z : ℕ) → r ≡ right_of t (x - 1) → z ≡ below r (x - 1) → k ≡ 3 → shown f t 0 y ++ ((32 ∷ 47 ∷ 32 ∷ []) ++ shown f t 1 z) ≡ whole
    unfolding toned expr_text node_by
    alt-text r z g q e =
        ap (λ (i : ℕ). shown f t 0 i ++ ((32 ∷ 47 ∷ 32 ∷ []) ++ shown f t 1 z)) p
        ∙ ap (λ (i : ℕ). shown f t 0 (below l (x - 1)) ++ ((32 ∷ 47 ∷ 32 ∷ []) ++ shown f t 1 i)) (q ∙ ap (λ (j : ℕ). below j (x - 1)) g)
        ∙ kind-text 3 e

    pub opt-text : k ≡ 4 → shown f t 4 y ++ (63 ∷ []) ≡ whole
    unfolding toned expr_text node_by
    opt-text e = ap (λ (i : ℕ). shown f t 4 i ++ (63 ∷ [])) p ∙ kind-text 4 e

    pub star-text : k ≡ 5 → shown f t 4 y ++ (42 ∷ []) ≡ whole
    unfolding toned expr_text node_by
    star-text e = ap (λ (i : ℕ). shown f t 4 i ++ (42 ∷ [])) p ∙ kind-text 5 e

    pub plus-text : k ≡ 6 → shown f t 4 y ++ (43 ∷ []) ≡ whole
    unfolding toned expr_text node_by
    plus-text e = ap (λ (i : ℕ). shown f t 4 i ++ (43 ∷ [])) p ∙ kind-text 6 e

    pub ahead-text : k ≡ 7 → (38 ∷ []) ++ shown f t 3 y ≡ whole
    unfolding toned expr_text node_by
    ahead-text e = ap (λ (i : ℕ). (38 ∷ []) ++ shown f t 3 i) p ∙ kind-text 7 e

    pub never-text : (k ≡ 0 → ⊥) → (k ≡ 1 → ⊥) → (k ≡ 2 → ⊥) → (k ≡ 3 → ⊥) → (k ≡ 4 → ⊥) → (k ≡ 5 → ⊥) → (k ≡ 6 → ⊥) → (k ≡ 7 → ⊥) → (33 ∷ []) ++ shown f t 3 y ≡ whole
    unfolding toned expr_text node_by
    never-text a b c d e g h i = ap (λ (j : ℕ). (33 ∷ []) ++ shown f t 3 j) p ∙ text-is f _ _ (never-is t x k l n u v a b c d e g h i)
