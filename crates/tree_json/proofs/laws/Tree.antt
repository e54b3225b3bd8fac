-- A tree's text is the text of its preorder list: the list closes nodes by their depths alone, and closes them where the tree's own parts end.
-- Assumes nothing.
use Prim.Native.Nat.{ℕ, suc, ◌-◌, ◌≤◌}
use Rattle.std.specs.Prelude.{◌≡◌, Bool}
use Rattle.std.proofs.Math.Path.{refl, ap}
use Rattle.std.proofs.Common.{sym, ◌∙◌, eq-eqb, ne_eqb}
use Rattle.std.proofs.Math.Bool.{cond}
use mathlib.Core.List.{List, [], ◌∷◌, ◌++◌, append_assoc, append-nil}
use native.Mathlib.Omega.{arith}
use Rattle.read_tokens.specs.Token.{Symbol}
use Rattle.match_meaning.specs.Meaning.{Node, nd}
use Rattle.tree_list.specs.Tree.{Trees, none, tree, preorder}
use Rattle.tree_json.specs.Json.{behind_children, comma, between, closings, behind_node, head_json, trees_json, json_text}

-- the next node is not below depth d
abbrev Low : ℕ → List Node → Type 0
Low d [] = Unit {0}
Low d (y ∷ ys) = y.depth ≤ d

lower : (d : ℕ) (rest : List Node) → Low d rest → Low (suc d) rest
lower d [] l = tt
lower d (y ∷ ys) l = omega arith

row_low : (d : ℕ) (ts : Trees) (rest : List Node) → Low d rest → Low d (preorder d ts ++ rest)
unfolding preorder
row_low d none rest l = l
row_low d (tree r p q cs ts) rest l = omega arith

module _ (f : ℕ → Symbol) (s : List ℕ) where
  -- behind a row of trees of depth d: what is above them is closed up to the next node's parent
  abbrev behind_row : ℕ → List Node → List ℕ
  behind_row d [] = closings d
  behind_row d (y ∷ ys) = closings (d - y.depth) ++ (comma ++ json_text f s (y ∷ ys))

  -- from where such a row begins
  abbrev row_on : ℕ → Trees → List Node → List ℕ
  row_on d none rest = behind_row d rest
  row_on d (tree r p q cs ts) rest = json_text f s (preorder d (tree r p q cs ts) ++ rest)

  one-closed : (d : ℕ) (rest : List Node) → Low d rest → behind_row (suc d) rest ≡ behind_children ++ behind_row d rest
  unfolding closings
  one-closed d [] l = refl
  one-closed d (y ∷ ys) l =
      let e : suc d - y.depth ≡ suc (d - y.depth) = omega arith in ap (λ (n : ℕ). closings n ++ (comma ++ json_text f s (y ∷ ys))) e

  -- a node's children begin behind its head
  children-on : (d : ℕ) (cs : Trees) (rest : List Node) → Low d rest
      → behind_node d (preorder (suc d) cs ++ rest) ++ json_text f s (preorder (suc d) cs ++ rest) ≡ row_on (suc d) cs rest
  unfolding behind_node preorder json_text
  children-on d none [] l = append-nil (closings (suc d))
  children-on d none (y ∷ ys) l =
      ap (λ (b : Bool). cond b [] (closings (suc d - y.depth) ++ comma) ++ json_text f s (y ∷ ys)) (ne_eqb y.depth (suc d) (λ e. omega arith))
      ∙ append_assoc (closings (suc d - y.depth)) comma (json_text f s (y ∷ ys))
  children-on d (tree r p q cs ts) rest l =
      let ys : List Node = preorder (suc d) (tree r p q cs ts) ++ rest in
      ap (λ (b : Bool). cond b [] (closings (suc d - suc d) ++ comma) ++ json_text f s ys) (eq-eqb (suc d) (suc d) refl)

  -- behind a tree of depth d come those behind it
  siblings-on : (d : ℕ) (ts : Trees) (rest : List Node) → behind_row d (preorder d ts ++ rest) ≡ between ts ++ row_on d ts rest
  unfolding preorder closings
  siblings-on d none rest = refl
  siblings-on d (tree r p q cs ts) rest =
      let e : d - d ≡ 0 = omega arith in ap (λ (n : ℕ). closings n ++ (comma ++ json_text f s (preorder d (tree r p q cs ts) ++ rest))) e

  regroup : (a b c d e z : List ℕ) → a ++ (b ++ (c ++ (d ++ (e ++ z)))) ≡ (a ++ (b ++ (c ++ (d ++ e)))) ++ z
  regroup a b c d e z = simp append_assoc

  row-json : (d : ℕ) (ts : Trees) (rest : List Node) → Low d rest → row_on d ts rest ≡ trees_json f s ts ++ behind_row d rest
  unfolding trees_json json_text preorder head_json
  row-json d none rest l = refl
  row-json d (tree r p q cs ts) rest l =
      let ys : List Node = preorder d ts ++ rest in
      let low : Low d ys = row_low d ts rest l in
      let head : List ℕ = head_json f s (nd r p q d) in
      ap (λ (xs : List Node). head ++ (behind_node d xs ++ json_text f s xs)) (append_assoc (preorder (suc d) cs) (preorder d ts) rest)
      ∙ ap (λ (w : List ℕ). head ++ w) (children-on d cs ys low ∙ row-json (suc d) cs ys (lower d ys low))
      ∙ ap (λ (w : List ℕ). head ++ (trees_json f s cs ++ w)) (one-closed d ys low)
      ∙ ap (λ (w : List ℕ). head ++ (trees_json f s cs ++ (behind_children ++ w))) (siblings-on d ts rest)
      ∙ ap (λ (w : List ℕ). head ++ (trees_json f s cs ++ (behind_children ++ (between ts ++ w)))) (row-json d ts rest l)
      ∙ regroup head (trees_json f s cs) behind_children (between ts) (trees_json f s ts) (behind_row d rest)

  pub json-tree : (r p q : ℕ) (cs : Trees) → json_text f s (preorder 0 (tree r p q cs none)) ≡ trees_json f s (tree r p q cs none)
  unfolding closings
  json-tree r p q cs =
      ap (json_text f s) (sym (append-nil (preorder 0 (tree r p q cs none)))) ∙ row-json 0 (tree r p q cs none) [] tt
      ∙ append-nil (trees_json f s (tree r p q cs none))
