-- Words have no bad node exactly if they are the preorder list of a tree. Assumes nothing.
use Rattle.std.specs.Prelude.{ℕ, ◌*◌, ◌≤◌, ◌≡◌, ◌↔◌, List, length}
use Rattle.std.proofs.Common.{ap, subst, ◌∙◌, sym as flip, arith}
use Rattle.std.proofs.Math.Option.{none}
use Rattle.read_tokens.specs.Bounds.{node_words}
use Rattle.match_meaning.specs.Meaning.{Node}
use Rattle.match_list.specs.Nodes.{room_of, nodes_at}
use Rattle.tree_list.specs.Tree.{none as leaf, tree, preorder, words_in, IsTree}
use Rattle.tree_list.specs.Preorder.{bad_from, whole, bad_node}
use Rattle.tree_list.specs.laws.NodeWords.{nodes-of-words, words_long, words-room, words-of-nodes, nodes-long}
use Rattle.tree_list.specs.laws.Bad.{Good, good-parts, parts-good}
use Rattle.tree_list.specs.laws.Building.{good-tree}
use Rattle.tree_list.specs.laws.Running.{tree-good}

-- the words of a list of nodes
pub list-good : (R n : ℕ) (xs : List Node) → 1 ≤ length xs → bad_from R (whole n) 0 xs ≡ none → bad_node R n (words_in xs) ≡ none
list-good R n xs h e =
    parts-good R n (words_in xs)
    (record {
      list =
          ap (λ (c : ℕ). bad_from R (whole n) 0 (nodes_at (words_in xs) 0 c)) (words-room xs) ∙ ap (bad_from R (whole n) 0) (nodes-of-words xs) ∙ e;
      some-node = omega (arith, words-room xs, h);
      exact = ap (λ (c : ℕ). node_words * c) (words-room xs) ∙ flip (words_long xs);
    })

-- the words of good words' nodes
pub good-words : (R n : ℕ) (ws : List ℕ) → bad_node R n ws ≡ none → ws ≡ words_in (nodes_at ws 0 (room_of ws))
good-words R n ws e = words-of-nodes ws (room_of ws) (flip (good-parts R n ws e).exact)

good-is-tree : (R n : ℕ) (ws : List ℕ) → bad_node R n ws ≡ none → IsTree R n ws
good-is-tree R n ws e =
    let g : Good R n ws = good-parts R n ws e in
    good-tree R n (nodes_at ws 0 (room_of ws)) ws (omega (arith, nodes-long ws 0 (room_of ws), g.some-node)) g.list (good-words R n ws e)

tree-is-good : (R n : ℕ) (ws : List ℕ) → IsTree R n ws → bad_node R n ws ≡ none
unfolding preorder
tree-is-good R n ws t =
    subst (λ (l : List ℕ). bad_node R n l ≡ none) (flip t.words)
    (list-good R n (preorder 0 (tree t.symbol t.start t.end t.children leaf)) (omega arith)
    (tree-good R n t.symbol t.start t.end t.children t.fits t.shallow))

pub list-tree : (R n : ℕ) (ws : List ℕ) → (bad_node R n ws ≡ none) ↔ IsTree R n ws
list-tree R n ws = (λ e. good-is-tree R n ws e, λ t. tree-is-good R n ws t)
