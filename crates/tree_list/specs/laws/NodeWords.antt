-- The words of a list of nodes are read back as that list, and whole nodes' words are the words of the nodes read. Assumes nothing.
use Prim.Native.Nat.{ℕ, zero, suc, ◌+◌, ◌-◌, ◌*◌, ◌≤◌, ◌<◌}
use Rattle.std.specs.Prelude.{◌≡◌, length, take}
use Rattle.std.proofs.Math.Path.{refl, ap, ap₂}
use Rattle.std.proofs.Common.{◌∙◌, sym as flip}
use mathlib.Core.List.{List, [], ◌∷◌}
use native.Mathlib.Omega.{arith}
use Rattle.std.proofs.Math.ListN.{get_or}
use Rattle.read_tokens.specs.Bounds.{node_words}
use Rattle.match_meaning.specs.Meaning.{Node, nd}
use Rattle.match_list.specs.Nodes.{in_words, room_of, node_at, nodes_at}
use Rattle.tree_list.specs.Tree.{words_in}

same-node : {a b c d a' b' c' d' : ℕ} → a ≡ a' → b ≡ b' → c ≡ c' → d ≡ d' → nd a b c d ≡ nd a' b' c' d'
same-node e f g i = rw (e, f, g, i)

-- ── node k + 1 of words is node k of those behind the first four ──
module _ (w x y z : ℕ) (ws : List ℕ) where
  later-word : (k j : ℕ) → get_or (w ∷ x ∷ y ∷ z ∷ ws) (node_words * suc k + j) 0 ≡ get_or ws (node_words * k + j) 0
  unfolding node_words
  later-word k j = ap (λ (i : ℕ). get_or (w ∷ x ∷ y ∷ z ∷ ws) i 0) (moved k j)
    where
      moved : (k j : ℕ) → 4 * suc k + j ≡ suc (suc (suc (suc (4 * k + j))))
      moved k j = omega arith

  later-nodes : (k c : ℕ) → nodes_at (w ∷ x ∷ y ∷ z ∷ ws) (suc k) c ≡ nodes_at ws k c
  unfolding nodes_at node_at
  later-nodes k zero = refl
  later-nodes k (suc c) = ap₂ ◌∷◌ (same-node (later-word k 0) (later-word k 1) (later-word k 2) (later-word k 3)) (later-nodes (suc k) c)

-- ── from a list to words and back ──
pub nodes-of-words : (xs : List Node) → nodes_at (words_in xs) 0 (length xs) ≡ xs
unfolding nodes_at node_at node_words words_in in_words
nodes-of-words [] = refl
nodes-of-words (x ∷ xs) = ap (λ (l : List Node). x ∷ l) (later-nodes x.symbol x.start x.end x.depth (words_in xs) 0 (length xs) ∙ nodes-of-words xs)

pub words_long : (xs : List Node) → length (words_in xs) ≡ node_words * length xs
unfolding words_in in_words node_words
words_long [] = refl
words_long (x ∷ xs) = omega (arith, words_long xs)

pub words-room : (xs : List Node) → room_of (words_in xs) ≡ length xs
unfolding room_of node_words
words-room xs = omega (arith, words_long xs)

-- ── from words to a list and back ──
pub words-of-nodes : (ws : List ℕ) (c : ℕ) → length ws ≡ node_words * c → ws ≡ words_in (nodes_at ws 0 c)
unfolding nodes_at node_at node_words words_in in_words
words-of-nodes [] zero h = refl
words-of-nodes (w ∷ ws) zero h = absurd (omega (arith, h))
words-of-nodes [] (suc c) h = absurd (omega (arith, h))
words-of-nodes (w ∷ []) (suc c) h = absurd (omega (arith, h))
words-of-nodes (w ∷ x ∷ []) (suc c) h = absurd (omega (arith, h))
words-of-nodes (w ∷ x ∷ y ∷ []) (suc c) h = absurd (omega (arith, h))
words-of-nodes (w ∷ x ∷ y ∷ z ∷ ws) (suc c) h =
    ap (λ (l : List ℕ). w ∷ x ∷ y ∷ z ∷ l) (words-of-nodes ws c (omega (arith, h)) ∙ ap words_in (flip (later-nodes w x y z ws 0 c)))

-- ── a part of the words, a part of the nodes ──
pub nodes-long : (ws : List ℕ) (k c : ℕ) → length (nodes_at ws k c) ≡ c
unfolding nodes_at
nodes-long ws k zero = refl
nodes-long ws k (suc c) = ap suc (nodes-long ws (suc k) c)

pub nodes-front : (ws : List ℕ) (k c j : ℕ) → j ≤ c → take j (nodes_at ws k c) ≡ nodes_at ws k j
unfolding nodes_at
nodes-front ws k c zero h = refl
nodes-front ws k zero (suc j) h = absurd (omega (arith, h))
nodes-front ws k (suc c) (suc j) h = ap (λ (l : List Node). node_at ws k ∷ l) (nodes-front ws (suc k) c j (omega (arith, h)))

-- words that agree up to the end of a node have the same nodes there
pub nodes-agree : (vs ws : List ℕ) (k c : ℕ) → ((i : ℕ) → i < node_words * (k + c) → get_or vs i 0 ≡ get_or ws i 0) → nodes_at vs k c ≡ nodes_at ws k c
unfolding nodes_at node_at node_words
nodes-agree vs ws k zero f = refl
nodes-agree vs ws k (suc c) f =
    ap₂ ◌∷◌
    (same-node (f (node_words * k + 0) (omega arith)) (f (node_words * k + 1) (omega arith)) (f (node_words * k + 2) (omega arith)) (f (node_words * k + 3) (omega arith)))
    (nodes-agree vs ws (suc k) c (λ i h. f i (omega (arith, h))))

-- ── from node k on, of n ──
pub one_more : (ws : List ℕ) (k n : ℕ) → k < n → nodes_at ws k (n - k) ≡ node_at ws k ∷ nodes_at ws (suc k) (n - suc k)
unfolding nodes_at
one_more ws k n h = ap (nodes_at ws k) (less k n h)
  where
    less : (k n : ℕ) → k < n → n - k ≡ suc (n - suc k)
    less k n h = omega (arith, h)

pub no_more : (ws : List ℕ) (k n : ℕ) → n ≤ k → nodes_at ws k (n - k) ≡ []
unfolding nodes_at
no_more ws k n h = ap (nodes_at ws k) (less k n h)
  where
    less : (k n : ℕ) → n ≤ k → n - k ≡ 0
    less k n h = omega (arith, h)
