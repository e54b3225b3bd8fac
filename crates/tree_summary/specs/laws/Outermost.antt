-- The bytes that lie in a node of a symbol are, in the tree, those of its outermost nodes. Assumes nothing.
use Rattle.std.specs.Prelude.{ℕ, suc, ◌+◌, ◌-◌, ◌≤◌, ◌<◌, ◌≡◌, refl, Bool, true, false, cond, ◌&&◌, ◌||◌, ◌⊎◌, List, [], ◌∷◌, eqb}
use Rattle.std.proofs.Common.{ap, ap₂, ◌∙◌, sym as flip, inl, inr, arith}
use Rattle.std.proofs.lemmas.Bool.{false≢true}
use Rattle.base_facts.specs.laws.Bools.{and_right}
use Rattle.match_meaning.specs.Meaning.{Node, nd}
use Rattle.match_list.specs.Nodes.{room_of, nodes_at}
use Rattle.tree_list.specs.Tree.{Trees, none, tree, preorder, Nests, words_in, IsTree}
use Rattle.tree_list.specs.laws.NodeWords.{nodes-of-words, words-room}
use Rattle.tree_summary.specs.Summary.{is_of, lies_in, covered_of}
use Rattle.tree_summary.specs.Outermost.{outermost_bytes}
use Rattle.tree_summary.specs.laws.Bytes.{in_span, in-span, spanned, lies-append, same_bytes, nothing-new, apart, no_node, one-node}

or_parts : (a b : Bool) → (a || b) ≡ true → (a ≡ true) ⊎ (b ≡ true)
or_parts true b e = inl refl
or_parts false b e = inr e

-- ── all bytes of trees lie where the trees do ──
-- of one tree, by its node and its children
in_tree : (r s p q d : ℕ) (xs : List Node) → ((i : ℕ) → lies_in r xs i ≡ true → (p ≤ i) × (i < q))
    → (i : ℕ) → lies_in r (nd s p q d ∷ xs) i ≡ true → (p ≤ i) × (i < q)
unfolding lies_in
in_tree r s p q d xs f i e = elim (or_parts (eqb s r && in_span p q i) (lies_in r xs i) e) [
  | inl h ↦ in-span p q i (and_right (eqb s r) (in_span p q i) h)
  | inr h ↦ f i h
]

in-trees : (R r a b d : ℕ) (ts : Trees) → Nests R a b ts → (i : ℕ) → lies_in r (preorder d ts) i ≡ true → (a ≤ i) × (i < b)
unfolding preorder Nests lies_in
in-trees R r a b d none h i e = absurd (false≢true e)
in-trees R r a b d (tree s p q cs ts) h i e =
    let first : List Node = nd s p q d ∷ preorder (suc d) cs in
    elim (or_parts (lies_in r first i) (lies_in r (preorder d ts) i) (flip (lies-append r first (preorder d ts) i) ∙ e)) [
      | inl k ↦
          let l : (p ≤ i) × (i < q) = in_tree r s p q d (preorder (suc d) cs) (λ j. in-trees R r p q (suc d) cs h.4 j) i k in
          (omega (arith, h.1, l.0), omega (arith, h.3, l.1))
      | inr k ↦
          let l : (q ≤ i) × (i < b) = in-trees R r q b d ts h.5 i k in
          (omega (arith, h.1, h.2, l.0), l.1)
    ]

-- ── the outermost nodes of trees ──
-- what lies in a node of the symbol adds nothing to it
inner-none : (r : ℕ) (x : Node) (i : ℕ) → is_of r x ≡ true → (x.start ≤ i) × (i < x.end) → lies_in r (x ∷ []) i ≡ true
unfolding lies_in
inner-none r x i e h = rw (e, spanned x.start x.end i h.0 h.1)

-- a node of another symbol has no byte
other_none : (r s p q d : ℕ) (xs : List Node) → eqb s r ≡ false → (i : ℕ) → lies_in r (nd s p q d ∷ xs) i ≡ lies_in r xs i
unfolding lies_in
other_none r s p q d xs e i = rw e

one-tree : (n r s p q d c : ℕ) (xs : List Node) (b : Bool) → eqb s r ≡ b → ((i : ℕ) → lies_in r xs i ≡ true → (p ≤ i) × (i < q)) → q ≤ n → covered_of n r xs ≡ c
    → covered_of n r (nd s p q d ∷ xs) ≡ cond b (q - p) c
one-tree n r s p q d c xs true e f l h =
    nothing-new n r (nd s p q d ∷ []) xs (λ i k. inner-none r (nd s p q d) i e (f i k)) ∙ one-node n r (nd s p q d) e ∙ omega (arith, l)
one-tree n r s p q d c xs false e f l h = same_bytes n r (nd s p q d ∷ xs) xs (other_none r s p q d xs e) ∙ h

pub outermost : (R n a b d : ℕ) (r : ℕ) (ts : Trees) → Nests R a b ts → b ≤ n → covered_of n r (preorder d ts) ≡ outermost_bytes r ts
unfolding preorder Nests outermost_bytes
outermost R n a b d r none h l = no_node n r
outermost R n a b d r (tree s p q cs ts) h l =
    let inner : (i : ℕ) → lies_in r (preorder (suc d) cs) i ≡ true → (p ≤ i) × (i < q) = in-trees R r p q (suc d) cs h.4 in
    apart n r (nd s p q d ∷ preorder (suc d) cs) (preorder d ts)
    (λ i e f. omega (arith, (in_tree r s p q d (preorder (suc d) cs) inner i e).1, (in-trees R r q b d ts h.5 i f).0))
    ∙ ap₂ ◌+◌
    (one-tree n r s p q d (outermost_bytes r cs) (preorder (suc d) cs) (eqb s r) refl inner (omega (arith, h.3, l))
    (outermost R n p q (suc d) r cs h.4 (omega (arith, h.3, l))))
    (outermost R n q b d r ts h.5 l)

-- ── the same of words ──
list-nodes : (ws : List ℕ) (xs : List Node) → ws ≡ words_in xs → nodes_at ws 0 (room_of ws) ≡ xs
list-nodes ws xs e = ap (λ (l : List ℕ). nodes_at l 0 (room_of l)) e ∙ ap (nodes_at (words_in xs) 0) (words-room xs) ∙ nodes-of-words xs

pub outermost-list : (R n r : ℕ) (ws : List ℕ) (t : IsTree R n ws)
    → covered_of n r (nodes_at ws 0 (room_of ws)) ≡ outermost_bytes r (tree t.symbol t.start t.end t.children none)
outermost-list R n r ws t =
    let ts : Trees = tree t.symbol t.start t.end t.children none in
    ap (covered_of n r) (list-nodes ws (preorder 0 ts) t.words) ∙ outermost R n 0 n 0 r ts t.fits (omega arith)
