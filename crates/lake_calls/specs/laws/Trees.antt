-- The trees of a table that holds a grammar with a body for each symbol are these bodies. Assumes nothing.
use Prim.Native.Nat.{ℕ, zero, suc, ◌+◌, ◌-◌, ◌*◌, ◌≤◌, ◌<◌}
use Rattle.std.specs.Prelude.{◌≡◌, refl, Bool, true, false, cond, ◌&&◌, eqb, ltb, length}
use Rattle.std.proofs.Math.Path.{sym, ap}
use Rattle.std.proofs.Common.{ap₂, ◌∙◌, subst, lt-ltb, eqb-true}
use Rattle.std.proofs.lemmas.Bool.{false≢true}
use mathlib.Core.List.{List, [], ◌∷◌, ◌++◌, map}
use Rattle.std.proofs.Math.Option.{Option, none, some}
use native.Mathlib.Omega.{arith}
use Rattle.std.proofs.Math.ListN.{get_or}
use Rattle.read_tokens.specs.Token.{Leaf, any, literal, class}
use Rattle.grammar.specs.Exp.{Exp, sym as uses, ter, seq, alt, opt, star, plus, ahead, never, size}
use Rattle.grammar.specs.Numbers.{Grammar}
use Rattle.grammar.specs.Same.{same_leaf, index_of}
use Rattle.grammar.specs.laws.Same.{leaf-sound}
use Rattle.grammar.specs.Parts.{Part, terminal, occurs, sequence, choice, option, repeat, repeat1, affirms, denies, last, parts_of, parts_all}
use Rattle.grammar_table.specs.Table.{up_to, op_of, left_of, right_of, node_by, tree_at, part_by, part_in, parts_in, roots_in, leaf_in, symbol_word, symbol_count, terminal_count, expression_count}
use Rattle.grammar_table.specs.Holds.{Holds, present, roots_from}
use Rattle.grammar.specs.Numbers.{terminal_in}
use Rattle.lake_step_one.specs.Proper.{Sound, SoundAll}
use Rattle.grammar_table.specs.laws.Places.{up_to-at}
use Rattle.grammar_table.specs.laws.Parts.{size-pos, parts-long, all-long, total, Seg, seg-left, seg-right, seg-one}
use Rattle.lake_step_one.proofs.laws.Held.{part_of, terminals-are, parts_are, bodies-count}
use Rattle.lake_step_one.specs.steps.Made.{with_bodies}
use Rattle.grammar_table.specs.Trees.{tree_of, below}
use Rattle.grammar_table.specs.laws.Trees.{tree-node}

-- what stands at the number of a terminal
pub leaf-at : (x : Leaf) (l : List Leaf) → index_of same_leaf x l < length l → get_or l (index_of same_leaf x l) any ≡ x
unfolding index_of
leaf-at x [] h = let z : ⊥ = omega arith in absurd z
leaf-at x (y ∷ l) h = go (same_leaf x y) refl (λ k. leaf-at x l k) h
  where
    go : (b : Bool) → same_leaf x y ≡ b → (index_of same_leaf x l < length l → get_or l (index_of same_leaf x l) any ≡ x) → cond b 0 (suc (index_of same_leaf x l)) < length (y ∷ l) → get_or (y ∷ l) (cond b 0 (suc (index_of same_leaf x l))) any ≡ x
    go true e f k = sym (leaf-sound x y e)
    go false e f k = f (omega arith)

-- ---- an expression by its parts
abbrev node_of : (ℕ → Leaf) → (ℕ → Exp ℕ) → Part → Exp ℕ
node_of leaf part (terminal x) = ter (leaf x)
node_of leaf part (occurs r) = uses r
node_of leaf part (sequence i j) = seq (part i) (part j)
node_of leaf part (choice i j) = alt (part i) (part j)
node_of leaf part (option i) = opt (part i)
node_of leaf part (repeat i) = star (part i)
node_of leaf part (repeat1 i) = plus (part i)
node_of leaf part (affirms i) = ahead (part i)
node_of leaf part (denies i) = never (part i)

node-of : (k l r : ℕ) (leaf : ℕ → Leaf) (part : ℕ → Exp ℕ) → node_by k l r leaf part ≡ node_of leaf part (part_by k l r)
unfolding node_by part_by
node-of zero l r leaf part = refl
node-of (suc zero) l r leaf part = refl
node-of (suc (suc zero)) l r leaf part = refl
node-of (suc (suc (suc zero))) l r leaf part = refl
node-of (suc (suc (suc (suc zero)))) l r leaf part = refl
node-of (suc (suc (suc (suc (suc zero))))) l r leaf part = refl
node-of (suc (suc (suc (suc (suc (suc zero)))))) l r leaf part = refl
node-of (suc (suc (suc (suc (suc (suc (suc zero))))))) l r leaf part = refl
node-of (suc (suc (suc (suc (suc (suc (suc (suc k)))))))) l r leaf part = refl

module _ (t : List ℕ) (number : Leaf → ℕ) (r x : ℕ) (leaves : (l : Leaf) → number l < x → leaf_in t (number l) ≡ l) where
  abbrev d : Part
  d = terminal 0

  by_part : (i : ℕ) (p : Part) → part_in t i ≡ p → tree_at t i ≡ node_of (leaf_in t) (λ j. tree_of t (below j i)) p
  unfolding part_in
  by_part i p e =
      tree-node t i ∙ node-of (op_of t i) (left_of t i) (right_of t i) (leaf_in t) (λ j. tree_of t (below j i)) ∙ ap (node_of (leaf_in t) (λ j. tree_of t (below j i))) e

  under : (i e : ℕ) (a : Exp ℕ) → i < e → tree_at t i ≡ a → tree_of t (below i e) ≡ a
  under i e a h p = ap (λ (b : Bool). tree_of t (cond b (suc i) 0)) (lt-ltb i e h) ∙ p

  abbrev Stands : Exp ℕ → ℕ → Type 0
  Stands a o = Seg number (part_in t) d o (parts_of number o a) → tree_at t (last o a) ≡ a

  one-under : (f : ℕ → Part) (w : Exp ℕ → Exp ℕ) (a : Exp ℕ) (o : ℕ) → ((part : ℕ → Exp ℕ) (i : ℕ) → node_of (leaf_in t) part (f i) ≡ w (part i))
      → Stands a o → Seg number (part_in t) d o (parts_of number o a ++ (f (last o a) ∷ [])) → tree_at t (o + suc (size a) - 1) ≡ w a
  one-under f w a o q h g =
      let A = parts_of number o a in let p = f (last o a) in let i = o + suc (size a) - 1 in
      by_part i p (seg-one number (part_in t) d (o + size a) i p (seg-right number (part_in t) d o (size a) A (p ∷ []) (parts-long number a o) g) (omega arith))
      ∙ q (λ j. tree_of t (below j i)) (last o a)
      ∙ ap w (under (last o a) i a (omega (arith, size-pos a)) (h (seg-left number (part_in t) d o A (p ∷ []) g)))

  two-under : (f : ℕ → ℕ → Part) (w : Exp ℕ → Exp ℕ → Exp ℕ) (a b : Exp ℕ) (o : ℕ) → ((part : ℕ → Exp ℕ) (i j : ℕ) → node_of (leaf_in t) part (f i j) ≡ w (part i) (part j))
      → Stands a o → Stands b (o + size a) → Seg number (part_in t) d o (parts_of number o a ++ (parts_of number (o + size a) b ++ (f (last o a) (last (o + size a) b) ∷ [])))
      → tree_at t (o + suc (size a + size b) - 1) ≡ w a b
  two-under f w a b o q h k g =
      let A = parts_of number o a in let B = parts_of number (o + size a) b in let p = f (last o a) (last (o + size a) b) in let i = o + suc (size a + size b) - 1 in
      let gb : Seg number (part_in t) d (o + size a) (B ++ (p ∷ [])) = seg-right number (part_in t) d o (size a) A (B ++ (p ∷ [])) (parts-long number a o) g in
      by_part i p (seg-one number (part_in t) d (o + size a + size b) i p (seg-right number (part_in t) d (o + size a) (size b) B (p ∷ []) (parts-long number b (o + size a)) gb) (omega arith))
      ∙ q (λ j. tree_of t (below j i)) (last o a) (last (o + size a) b)
      ∙ ap₂ w (under (last o a) i a (omega (arith, size-pos a)) (h (seg-left number (part_in t) d o A (B ++ (p ∷ [])) g)))
      (under (last (o + size a) b) i b (omega (arith, size-pos b)) (k (seg-left number (part_in t) d (o + size a) B (p ∷ []) gb)))

  -- the tree at the last of an expression's parts is the expression
  pub tree-of : (e : Exp ℕ) (o : ℕ) → Sound number r x e → Seg number (part_in t) d o (parts_of number o e) → tree_at t (last o e) ≡ e
  unfolding parts_of size
  tree-of (uses s) o h g = by_part (o + 1 - 1) (occurs s) (seg-one number (part_in t) d o (o + 1 - 1) (occurs s) g (omega arith))
  tree-of (ter y) o h g = by_part (o + 1 - 1) (terminal (number y)) (seg-one number (part_in t) d o (o + 1 - 1) (terminal (number y)) g (omega arith)) ∙ ap ter (leaves y h.0)
  tree-of (seq a b) o h g = two-under sequence seq a b o (λ part i j. refl) (λ k. tree-of a o h.0 k) (λ k. tree-of b (o + size a) h.1 k) g
  tree-of (alt a b) o h g = two-under choice alt a b o (λ part i j. refl) (λ k. tree-of a o h.0 k) (λ k. tree-of b (o + size a) h.1 k) g
  tree-of (opt a) o h g = one-under option opt a o (λ part i. refl) (λ k. tree-of a o h k) g
  tree-of (star a) o h g = one-under repeat star a o (λ part i. refl) (λ k. tree-of a o h k) g
  tree-of (plus a) o h g = one-under repeat1 plus a o (λ part i. refl) (λ k. tree-of a o h k) g
  tree-of (ahead a) o h g = one-under affirms ahead a o (λ part i. refl) (λ k. tree-of a o h k) g
  tree-of (never a) o h g = one-under denies never a o (λ part i. refl) (λ k. tree-of a o h k) g

  -- of each body
  tree-body : (es : List (Exp ℕ)) (o : ℕ) → SoundAll number r x es → Seg number (part_in t) d o (parts_all number o es) → (s : ℕ) → s < length es
      → tree_of t (get_or (roots_from o (map some es)) s 0) ≡ get_or es s (ter any)
  unfolding parts_all roots_from
  tree-body [] o h g s p = let z : ⊥ = omega arith in absurd z
  tree-body (e ∷ es) o h g zero p = tree-of e o h.0 (seg-left number (part_in t) d o (parts_of number o e) (parts_all number (o + size e) es) g)
  tree-body (e ∷ es) o h g (suc s) p =
      tree-body es (o + size e) h.1 (seg-right number (part_in t) d o (size e) (parts_of number o e) (parts_all number (o + size e) es) (parts-long number e o) g) s (omega arith)

-- a terminal stands at its number
pub leaf-is : (t : List ℕ) (g : Grammar) → Holds t g → (l : Leaf) → terminal_in g l < length g.terminals → leaf_in t (terminal_in g l) ≡ l
leaf-is t g h l k =
    sym (up_to-at (leaf_in t) (terminal_count t) (terminal_in g l) any (omega (arith, terminals-are t g h)))
    ∙ ap (λ (ls : List Leaf). get_or ls (terminal_in g l) any) h.terminals ∙ leaf-at l g.terminals k

module _ (t : List ℕ) (g : Grammar) (bodies : List (Exp ℕ)) (h : Holds t (with_bodies g bodies)) where
  pub bodies-are : symbol_count t ≡ length bodies
  bodies-are = bodies-count t g bodies h

  root-at : (s : ℕ) → s < length bodies → symbol_word t s 1 ≡ get_or (roots_from 0 (map some bodies)) s 0
  unfolding roots_in
  root-at s l = sym (up_to-at (λ r. symbol_word t r 1) (symbol_count t) s 0 (omega (arith, bodies-are))) ∙ ap (λ (w : List ℕ). get_or w s 0) h.roots

  pub trees-are : SoundAll (terminal_in g) (length g.names) (length g.terminals) bodies → (r : ℕ) → r < length bodies → tree_of t (symbol_word t r 1) ≡ get_or bodies r (ter any)
  trees-are sound r l =
      ap (tree_of t) (root-at r l) ∙ tree-body t (terminal_in g) (length g.names) (length g.terminals) (leaf-is t (with_bodies g bodies) h) bodies 0 sound
      (part_of t (parts_all (terminal_in g) 0 bodies) (parts_are t g bodies h)) r l
