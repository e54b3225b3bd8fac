-- The alternative that stands for a choice. Assumes nothing: these are definitions.
use Rattle.std.specs.Prelude.{ℕ, ◌≤◌, ◌≡◌, ◌⊎◌, List, Option, None, Some}
use Rattle.grammar.specs.Exp.{alt}
use Rattle.grammar_table.specs.Trees.{tree_of}
use Rattle.match_meaning.specs.Meaning.{Node}
use Rattle.match_eval.specs.Eval.{ev}
use Rattle.match_list.specs.Nodes.{walk_of}
use Rattle.match_desk.specs.steps.Desk.{Desk}
use Rattle.match_walks.specs.steps.Tasks.{Task}
use Rattle.match_walks.specs.steps.Waits.{going}

-- r stands for x at p: it takes the same, lists the same and has the same behind it
pub record StandsFor (t s cs : List ℕ) (n x p r : ℕ) : Type 0 where
  pub small : r ≤ x
  pub works : ev s cs n (tree_of t r) p ≡ 0 → ⊥
  pub takes : ev s cs n (tree_of t r) p ≡ ev s cs n (tree_of t x) p
  pub lists : (w : ℕ → ℕ → List Node) → walk_of s (λ e i. ev s cs n e i) w (tree_of t r) p ≡ walk_of s (λ e i. ev s cs n e i) w (tree_of t x) p
  pub up : (k : List ℕ) (m d : ℕ) → Desk t k m → m ≤ 1024 → x ≤ m → going t k d r ≡ going t k d x

-- what stands for x at p, where it does not fail
abbrev pub Picked : (t s cs : List ℕ) (n x p : ℕ) → Option ℕ → Type 0
Picked t s cs n x p None = ev s cs n (tree_of t x) p ≡ 0
Picked t s cs n x p (Some r) = StandsFor t s cs n x p r

-- r stands for the choice over y and z, where one of the two matches
pub record Chosen (t s cs : List ℕ) (n y z p r : ℕ) : Type 0 where
  pub small : (ev s cs n (alt (tree_of t y) (tree_of t z)) p ≡ 0 → ⊥) → (r ≤ y) ⊎ (r ≤ z)
  pub takes : (ev s cs n (alt (tree_of t y) (tree_of t z)) p ≡ 0 → ⊥) → ev s cs n (tree_of t r) p ≡ ev s cs n (alt (tree_of t y) (tree_of t z)) p
  pub lists : (ev s cs n (alt (tree_of t y) (tree_of t z)) p ≡ 0 → ⊥) → (w : ℕ → ℕ → List Node)
      → walk_of s (λ e i. ev s cs n e i) w (tree_of t r) p ≡ walk_of s (λ e i. ev s cs n e i) w (alt (tree_of t y) (tree_of t z)) p
  pub up : (ev s cs n (alt (tree_of t y) (tree_of t z)) p ≡ 0 → ⊥) → (k : List ℕ) (m d : ℕ) (g : List Task) → Desk t k m → m ≤ 1024 → y ≤ m → z ≤ m
      → going t k d y ≡ g → going t k d z ≡ g → going t k d r ≡ g
