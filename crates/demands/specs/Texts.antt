-- A JSON text of a tree (02, par. 1: "such a text gives the same node list, and any other text is refused"). Assumes nothing: these are definitions.
use Rattle.std.specs.Prelude.{ℕ, ◌≡◌, List, length}
use Rattle.read_tokens.specs.Token.{Symbol}
use Rattle.match_meaning.specs.Meaning.{Node}
use Rattle.tree_list.specs.Tree.{Trees, none, tree, preorder, Nests, WithinDepth}
use Rattle.tree_json.specs.Json.{trees_json}

-- js is the text of one tree of R symbols, f by number, on the input s
pub record IsText (f : ℕ → Symbol) (R : ℕ) (s js : List ℕ) : Type 0 where
  pub symbol : ℕ
  pub start : ℕ
  pub end : ℕ
  pub children : Trees
  pub fits : Nests R 0 (length s) (tree symbol start end children none)
  pub shallow : WithinDepth 0 (tree symbol start end children none)
  pub text : js ≡ trees_json f s (tree symbol start end children none)

-- the node list of that tree
abbrev pub nodes_of_text : {f : ℕ → Symbol} {R : ℕ} {s js : List ℕ} → IsText f R s js → List Node
nodes_of_text x = preorder 0 (tree x.symbol x.start x.end x.children none)
