-- "the bytes its outermost nodes cover" (02, par. 2), in the tree: a node of the symbol counts all its bytes, and nothing inside it counts again.
-- Assumes nothing: these are definitions.
use Rattle.std.specs.Prelude.{ℕ, ◌+◌, ◌-◌, cond, eqb}
use Rattle.tree_list.specs.Tree.{Trees, none, tree}

unfoldable pub outermost_bytes : ℕ → Trees → ℕ
outermost_bytes r none = 0
outermost_bytes r (tree s p q cs ts) = cond (eqb s r) (q - p) (outermost_bytes r cs) + outermost_bytes r ts
