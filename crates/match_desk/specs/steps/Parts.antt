-- What code sees of an expression of a table. Assumes nothing: these are definitions.
use Rattle.std.specs.Prelude.{ℕ, zero, suc, ◌<◌, ◌≡◌, List}
use Rattle.read_tokens.specs.Token.{Leaf}
use Rattle.grammar.specs.Exp.{Exp, sym, ter, seq, alt, opt, star, plus, ahead, never}
use Rattle.grammar_table.specs.Table.{leaf_in}
use Rattle.grammar_table.specs.Trees.{tree_of}
use Rattle.match_desk.specs.steps.Desk.{kind_of, left_part, right_part}

-- the expression of kind k: a terminal, symbol l, or over the parts a and b
unfoldable pub shape : ℕ → Leaf → ℕ → Exp ℕ → Exp ℕ → Exp ℕ
shape zero leaf l a b = ter leaf
shape (suc zero) leaf l a b = sym l
shape (suc (suc zero)) leaf l a b = seq a b
shape (suc (suc (suc zero))) leaf l a b = alt a b
shape (suc (suc (suc (suc zero)))) leaf l a b = opt a
shape (suc (suc (suc (suc (suc zero))))) leaf l a b = star a
shape (suc (suc (suc (suc (suc (suc zero)))))) leaf l a b = plus a
shape (suc (suc (suc (suc (suc (suc (suc zero))))))) leaf l a b = ahead a
shape (suc (suc (suc (suc (suc (suc (suc (suc k)))))))) leaf l a b = never a

-- expression x - 1 is of kind k over the parts y and z, which come before it
pub record Made (t : List ℕ) (x k l y z : ℕ) : Type 0 where
  pub tree : shape k (leaf_in t l) l (tree_of t y) (tree_of t z) ≡ tree_of t x
  pub left : y < x
  pub right : z < x
  pub small : l < 4294967296
  pub kind : k ≡ kind_of t x
  pub first : y ≡ left_part t x
  pub second : z ≡ right_part t x
