-- The tree of which a node list is the preorder (02, par. 1: "preorder list", "children inside their parent, siblings in order without overlap").
-- Assumes nothing: these are definitions.
use Rattle.std.specs.Prelude.{ℕ, suc, ◌*◌, ◌≤◌, ◌<◌, ◌≡◌, List, [], ◌∷◌, ◌++◌, ◌⊎◌, take}
use Rattle.read_tokens.specs.Bounds.{depth_bound, node_words}
use Rattle.match_meaning.specs.Meaning.{Node, nd}
use Rattle.match_list.specs.Nodes.{in_words}

-- trees side by side: none; or a first one (symbol, start, end, its children), and those behind it
pub data Trees : Type 0 where
  none : Trees
  tree : ℕ → ℕ → ℕ → Trees → Trees → Trees

-- their nodes in preorder, the trees' own at depth d
unfoldable pub preorder : ℕ → Trees → List Node
preorder d none = []
preorder d (tree r p q cs ts) = nd r p q d ∷ (preorder (suc d) cs ++ preorder d ts)

-- "known symbols; spans within the input, children inside their parent, siblings in order without overlap": all lie between a and b, and there are R symbols
unfoldable pub Nests : ℕ → ℕ → ℕ → Trees → Type 0
Nests R a b none = Unit {0}
Nests R a b (tree r p q cs ts) = (r < R) × (a ≤ p) × (p ≤ q) × (q ≤ b) × Nests R p q cs × Nests R q b ts

-- "depth at most 255"
unfoldable pub WithinDepth : ℕ → Trees → Type 0
WithinDepth d none = Unit {0}
WithinDepth d (tree r p q cs ts) = (d ≤ depth_bound) × WithinDepth (suc d) cs × WithinDepth d ts

-- the words of a list of nodes
unfoldable pub words_in : List Node → List ℕ
words_in [] = []
words_in (x ∷ xs) = in_words x ++ words_in xs

-- "whole nodes; one root, first": the words are the preorder list of one tree of R symbols on an input of n bytes
pub record IsTree (R n : ℕ) (ws : List ℕ) : Type 0 where
  pub symbol : ℕ
  pub start : ℕ
  pub end : ℕ
  pub children : Trees
  pub fits : Nests R 0 n (tree symbol start end children none)
  pub shallow : WithinDepth 0 (tree symbol start end children none)
  pub words : ws ≡ words_in (preorder 0 (tree symbol start end children none))

-- "place the first bad node": what stands before node k could still be such a list, and nothing that begins with node k too is one
pub record FirstBad (R n : ℕ) (ws : List ℕ) (k : ℕ) : Type 0 where
  pub before : (k ≡ 0) ⊎ IsTree R n (take (node_words * k) ws)
  pub with : (vs : List ℕ) → IsTree R n vs → take (node_words * suc k) vs ≡ take (node_words * suc k) ws → ⊥
