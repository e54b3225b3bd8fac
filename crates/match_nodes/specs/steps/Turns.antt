-- The turns of a pass over the node list, and what a pass asks. Assumes nothing: these are definitions.
use Rattle.std.specs.Prelude.{ℕ, ◌+◌, ◌*◌, ◌≤◌, ◌<◌, ◌≡◌, Bool, List, length, Option, None, Some, Result, Ok, Err}
use Rattle.grammar_table.specs.Table.{symbol_word, symbol_count, expression_count}
use Rattle.grammar_table.specs.Trees.{bodies_of}
use Rattle.match_cells.specs.laws.Agrees.{Right}
use Rattle.match_desk.specs.steps.Desk.{Forest, Desk}
use Rattle.match_walks.specs.steps.Tasks.{Task, listed, AllAble, to_do}
use Rattle.match_walks.specs.steps.Waits.{tasks_of, climb}
use Rattle.match_nodes.specs.declared.Mode.{Mode}
use Rattle.match_nodes.specs.declared.Mode.TheVariants.{Done, Walk}
use Rattle.match_nodes.specs.declared.Offence.{Offence}
use Rattle.match_nodes.specs.declared.Stand.{Stand}
use Rattle.match_nodes.specs.steps.Passes.{Out, out, run}

-- a table with n symbols and at most 1,024 expressions, among them each symbol's body, none of which is a part twice; a text; and cells in which every
-- symbol's cell is its meaning
pub record Ready (t s cs : List ℕ) (n : ℕ) : Type 0 where
  pub count : n ≡ symbol_count t
  pub few : n ≤ 64
  pub short : length s ≤ 65535
  pub right : Right (bodies_of t) s cs
  pub small : (r : ℕ) → r < n → symbol_word t r 1 ≤ expression_count t
  pub fits : expression_count t ≤ 1024
  pub forest : Forest t

-- how a pass stands, as a number
abbrev pub mode_of : Mode → ℕ
mode_of Done = 1
mode_of Walk = 2

module _ (t s cs : List ℕ) (n : ℕ) where
  -- a pass stands at p
  pub record State (k : List ℕ) (m d x p : ℕ) : Type 0 where
    pub desk : Desk t k (expression_count t)
    pub place : p ≤ length s
    pub level : d ≤ 256
    pub small : x < 4294967296
    pub known : 2 ≤ m → x ≤ expression_count t
    pub able : AllAble t s cs n (tasks_of t k m d x) p

  -- a bound on the turns of a pass: it walks, or it goes up
  unfoldable pub turns : List ℕ → ℕ → ℕ → ℕ → ℕ → ℕ
  turns k m d x p = to_do t s cs n (tasks_of t k m d x) p * 1048576 + climb m d x

-- the pass over room nodes, which writes or not, at o before and at i after: tasks xs at p, from which it can go up c times, become those of a stand at q
module _ (t s cs : List ℕ) (n room : ℕ) (w : Bool) where
  pub record Turned (o i : Out) (xs : List Task) (p c : ℕ) (k : List ℕ) (m d x q : ℕ) : Type 0 where
    pub same : run room w i (listed t s cs n (tasks_of t k m d x) q) ≡ run room w o (listed t s cs n xs p)
    pub state : State t s cs n k m d x q
    pub less : turns t s cs n k m d x q < to_do t s cs n xs p * 1048576 + c

  abbrev pub TurnedTo : Out → List ℕ → List Task → ℕ → ℕ → List ℕ → Stand → Type 0
  TurnedTo o ws xs p c k r = Turned o (out ws (Ok r.at)) xs p c k (mode_of r.mode) r.level r.x r.place

  -- or its tasks are at an end, or a node of them offends
  abbrev pub Ended : Out → Out → List Task → ℕ → Type 0
  Ended o i xs p = i ≡ run room w o (listed t s cs n xs p)

  -- entering a symbol, and a turn; ws are the words after them, k the desk's. A turn from `at` nodes on that is the last notes none
  abbrev pub Enters : Out → List ℕ → List Task → ℕ → ℕ → List ℕ → Result Stand Offence → Type 0
  Enters o ws xs p c k (Ok r) = TurnedTo o ws xs p c k r
  Enters o ws xs p c k (Err e) = Ended o (out ws (Err e)) xs p

  abbrev pub TurnsTo : Out → List ℕ → List Task → ℕ → ℕ → List ℕ → Result (Option Stand) Offence → Type 0
  TurnsTo o ws xs p c k (Ok (Some r)) = TurnedTo o ws xs p c k r
  TurnsTo o ws xs p c k (Ok None) = Ended o (out ws o.at) xs p
  TurnsTo o ws xs p c k (Err e) = Ended o (out ws (Err e)) xs p
