-- The node list by tasks: what is still to be walked, the next first, each from the place where the one before it ends.
-- Code holds no list of them: `Waits` says which tasks a pass stands before, by the words of the desk.
-- Assumes nothing: these are definitions.
use Rattle.std.specs.Prelude.{ℕ, zero, suc, ◌+◌, ◌-◌, ◌*◌, ◌≤◌, ◌≡◌, List, [], ◌∷◌, ◌++◌, length}
use Rattle.match_meaning.specs.Meaning.{Node}
use Rattle.match_eval.specs.Eval.{cell_at, rep, ev}
use Rattle.match_list.specs.Nodes.{rep_n, walk_of, nodes_of, levels}
use Rattle.grammar_table.specs.Trees.{tree_of, bodies_of}

-- walk: expression x - 1, which matches there, and `.` for 0; again: rounds of it; enter: symbol r, which matches there. The second number is the depth
pub data Task : Type 0 where
  walk again enter : ℕ → ℕ → Task

-- t is the table of a plain grammar of n symbols, s the text, cs the cells
module _ (t s cs : List ℕ) (n : ℕ) where
  -- the nodes of symbol r at depth d: depth and levels left are as many as all levels
  unfoldable pub under : ℕ → ℕ → ℕ → List Node
  under d r q = nodes_of (bodies_of t) s cs (levels - d) d r q

  abbrev pub takes : ℕ → ℕ → ℕ
  takes x q = ev s cs n (tree_of t x) q

  abbrev pub walked : ℕ → ℕ → ℕ → List Node
  walked x d q = walk_of s (λ e i. ev s cs n e i) (λ r i. under d r i) (tree_of t x) q

  -- the nodes of a task from p on, and where it ends
  unfoldable pub nodes : Task → ℕ → List Node
  nodes (walk x d) p = walked x d p
  nodes (again x d) p = rep_n (length s) (λ q. takes x q) (λ q. walked x d q) p
  nodes (enter r d) p = under d r p

  unfoldable pub after : Task → ℕ → ℕ
  after (walk x d) p = p + (takes x p - 1)
  after (again x d) p = p + rep (length s) (λ q. takes x q) p
  after (enter r d) p = p + (cell_at s cs n r p - 1)

  abbrev pub Able : Task → ℕ → Type 0
  Able (walk x d) p = takes x p ≡ 0 → ⊥
  Able (again x d) p = Unit
  Able (enter r d) p = cell_at s cs n r p ≡ 0 → ⊥

  -- of all tasks
  unfoldable pub listed : List Task → ℕ → List Node
  listed [] p = []
  listed (x ∷ xs) p = nodes x p ++ listed xs (after x p)

  abbrev pub AllAble : List Task → ℕ → Type 0
  AllAble [] p = Unit
  AllAble (x ∷ xs) p = Able x p × AllAble xs (after x p)

-- how many tasks there can still be, for a text of m bytes: a bound that falls with each
unfoldable pub cost : ℕ → ℕ → ℕ
cost m zero = 1
cost m (suc k) = cost m k + cost m k + m * (cost m k + 1) + 2

unfoldable pub rank : ℕ → ℕ → ℕ
rank x d = (257 - d) * 2048 + x

unfoldable pub cost_of : ℕ → Task → ℕ → ℕ
cost_of m (walk x d) p = cost m (rank x d)
cost_of m (again x d) p = (m - p) * (cost m (rank x d) + 1) + 1
cost_of m (enter r d) p = cost m (rank 0 d)

module _ (t s cs : List ℕ) (n : ℕ) where
  unfoldable pub to_do : List Task → ℕ → ℕ
  to_do [] p = 0
  to_do (x ∷ xs) p = cost_of (length s) x p + to_do xs (after t s cs n x p)

  -- a task at p gives way to others at q
  pub record Step (x : Task) (p : ℕ) (ys : List Task) (q : ℕ) : Type 0 where
    pub place : q ≤ length s
    pub same : (zs : List Task) → listed t s cs n (ys ++ zs) q ≡ nodes t s cs n x p ++ listed t s cs n zs (after t s cs n x p)
    pub able : (zs : List Task) → AllAble t s cs n zs (after t s cs n x p) → AllAble t s cs n (ys ++ zs) q
    pub less : (zs : List Task) → to_do (ys ++ zs) q + 1 ≤ cost_of (length s) x p + to_do zs (after t s cs n x p)

  -- tasks at p become others at q: the same nodes, and at least c tasks fewer
  pub record Moves (xs : List Task) (p : ℕ) (ys : List Task) (q c : ℕ) : Type 0 where
    pub place : q ≤ length s
    pub same : listed t s cs n ys q ≡ listed t s cs n xs p
    pub able : AllAble t s cs n xs p → AllAble t s cs n ys q
    pub less : to_do ys q + c ≤ to_do xs p
