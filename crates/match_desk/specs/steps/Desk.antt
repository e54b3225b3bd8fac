-- What the list keeps in words of its own, 17 KiB in place of a stack of tasks: whether an expression holds a symbol, for each level the symbol's use that
-- was entered there, what bytes decide of rounds, and the parent of each expression. Expressions are 1 + their number; 0 is none. Assumes nothing: these are
-- definitions.
use Rattle.std.specs.Prelude.{ℕ, zero, suc, ◌+◌, ◌-◌, ◌≤◌, ◌<◌, ◌≡◌, ◌⊎◌, List, [], length, get_or}
use Rattle.grammar.specs.Exp.{Exp}
use Rattle.grammar_table.specs.Table.{op_of, left_of, right_of, symbol_word, symbol_count, expression_count}
use Rattle.grammar_table.specs.Trees.{tree_of, below}
use Rattle.match_meaning.specs.Meaning.{Node}
use Rattle.match_list.specs.Nodes.{walk_of}

-- marks stand first, then returns, then lanes; parents stand last, so that what is no expression has none
abbrev pub returns_at : ℕ
returns_at = 1025

abbrev pub lanes_at : ℕ
lanes_at = 1282

abbrev pub parents_at : ℕ
parents_at = 3331

abbrev pub desk_words : ℕ
desk_words = 4356

abbrev pub mark_of : List ℕ → ℕ → ℕ
mark_of k x = get_or k x 0

abbrev pub return_of : List ℕ → ℕ → ℕ
return_of k d = get_or k (returns_at + d) 0

abbrev pub parent_of : List ℕ → ℕ → ℕ
parent_of k x = get_or k (parents_at + x) 0

-- the kind of expression x, and its parts as evaluation goes to them
abbrev pub kind_of : List ℕ → ℕ → ℕ
kind_of t x = op_of t (x - 1)

abbrev pub left_part : List ℕ → ℕ → ℕ
left_part t x = below (left_of t (x - 1)) (x - 1)

abbrev pub right_part : List ℕ → ℕ → ℕ
right_part t x = below (right_of t (x - 1)) (x - 1)

-- x of this kind is the parent of its parts, where they are walked: not under `&` and `!`
abbrev pub Parted : ℕ → (ℕ → ℕ) → ℕ → ℕ → ℕ → Type 0
Parted zero parent x y z = Unit
Parted (suc zero) parent x y z = Unit
Parted (suc (suc zero)) parent x y z = (parent y ≡ x) × (parent z ≡ x) × (z ≡ y → ⊥)
Parted (suc (suc (suc zero))) parent x y z = (parent y ≡ x) × (parent z ≡ x) × (z ≡ y → ⊥)
Parted (suc (suc (suc (suc zero)))) parent x y z = parent y ≡ x
Parted (suc (suc (suc (suc (suc zero))))) parent x y z = parent y ≡ x
Parted (suc (suc (suc (suc (suc (suc zero)))))) parent x y z = parent y ≡ x
Parted (suc (suc (suc (suc (suc (suc (suc k))))))) parent x y z = Unit

-- no expression of the table is a part twice, and no body is a part
pub record Forest (t : List ℕ) : Type 0 where
  pub parent : ℕ → ℕ
  pub parts : (x : ℕ) → 0 < x → x ≤ expression_count t → Parted (kind_of t x) parent x (left_part t x) (right_part t x)
  pub roots : (r : ℕ) → r < symbol_count t → parent (symbol_word t r 1) ≡ 0

-- an expression that lists no node, whatever its parts take and whatever symbols list
abbrev pub Silent : Exp ℕ → Type 0
Silent e = (s : List ℕ) (f : Exp ℕ → ℕ → ℕ) (w : ℕ → ℕ → List Node) (p : ℕ) → walk_of s f w e p ≡ []

-- the first e expressions are entered
pub record Desk (t k : List ℕ) (e : ℕ) : Type 0 where
  pub size : length k ≡ desk_words
  pub parts : (x : ℕ) → 0 < x → x ≤ e → Parted (kind_of t x) (λ i. parent_of k i) x (left_part t x) (right_part t x)
  pub roots : (r : ℕ) → r < symbol_count t → parent_of k (symbol_word t r 1) ≡ 0
  pub range : (i : ℕ) → (parent_of k i ≡ 0) ⊎ ((i < parent_of k i) × (parent_of k i ≤ e))
  pub silent : (x : ℕ) → x ≤ e → mark_of k x ≡ 0 → Silent (tree_of t x)
