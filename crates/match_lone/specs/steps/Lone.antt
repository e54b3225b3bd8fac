-- What a byte decides of a round: what it takes, and which node it lists. Assumes nothing: these are definitions.
use Rattle.std.specs.Prelude.{ℕ, ◌≤◌, ◌<◌, ◌≡◌, List, ◌∷◌, length, Option, None, Some}
use Rattle.grammar.specs.Exp.{sym}
use Rattle.grammar_table.specs.Table.{symbol_word, expression_count}
use Rattle.grammar_table.specs.Trees.{tree_of}
use Rattle.match_meaning.specs.Meaning.{Node as ListNode}
use Rattle.match_eval.specs.Eval.{ev}
use Rattle.match_eval.specs.steps.Firsts.{byte_at}
use Rattle.match_eval.specs.steps.Memory.{Knows}
use Rattle.match_list.specs.Nodes.{walk_of}
use Rattle.match_desk.specs.steps.Desk.{mark_of}
use Rattle.match_lone.specs.declared.Round.{Round}
use Rattle.match_lone.specs.declared.Round.TheVariants.{Silent, Node}
use Rattle.match_walks.specs.steps.Tasks.{again}
use Rattle.match_walks.specs.steps.Waits.{going}

-- at a place where byte b stands, over cells and a memory that knows them
abbrev pub Wherever : List ℕ → List ℕ → ℕ → (List ℕ → List ℕ → ℕ → ℕ → Type 0) → Type 0
Wherever t mem b A = (s cs : List ℕ) (n p : ℕ) → Knows t s cs n mem 0 p → p ≤ length s → b ≡ byte_at s p → A s cs n p

-- r stands for x wherever byte b stands: it lists the same nodes
pub record Stands (t mem : List ℕ) (b x r : ℕ) : Type 0 where
  pub small : r ≤ x
  pub lists : Wherever t mem b
      (λ s cs n p. (w : ℕ → ℕ → List ListNode) → walk_of s (λ e i. ev s cs n e i) w (tree_of t r) p ≡ walk_of s (λ e i. ev s cs n e i) w (tree_of t x) p)

-- and both take just this byte
pub record Settles (t mem : List ℕ) (b x r : ℕ) : Type 0 where
  pub stands : Stands t mem b x r
  pub two : Wherever t mem b (λ s cs n p. ev s cs n (tree_of t x) p ≡ 2)
  pub ends : Wherever t mem b (λ s cs n p. ev s cs n (tree_of t r) p ≡ 2)

-- symbol r's node is all that it lists
abbrev pub Single : List ℕ → List ℕ → List ℕ → ℕ → ℕ → Type 0
Single t mem k b r = (r < 64) × ((v : ℕ) × Stands t mem b (symbol_word t r 1) v × (mark_of k v ≡ 0))

-- what stands for x, if byte b decides it
abbrev pub Settled : List ℕ → List ℕ → ℕ → ℕ → Option ℕ → Type 0
Settled t mem b x None = Unit
Settled t mem b x (Some r) = Settles t mem b x r

-- what a round of x is where byte b stands: it takes just this byte and lists no node, or that of one symbol alone; or nothing is said of it
abbrev pub Lone : (t mem k : List ℕ) (b x : ℕ) → Option Round → Type 0
Lone t mem k b x None = Unit
Lone t mem k b x (Some Silent) = (y : ℕ) × Settles t mem b x y × (mark_of k y ≡ 0)
Lone t mem k b x (Some (Node r)) = ((y : ℕ) × Settles t mem b x y × (tree_of t y ≡ sym r)) × Single t mem k b r

-- behind x wait further rounds of it, and what is behind some e
abbrev pub Repeated : List ℕ → List ℕ → ℕ → Type 0
Repeated t k x = (x ≤ expression_count t) × ((e : ℕ) × ((d : ℕ) → going t k d x ≡ again x d ∷ going t k d e))
