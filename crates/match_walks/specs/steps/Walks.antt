-- What walking an expression comes to, and what comes behind one that is done. Assumes nothing: these are definitions.
use Rattle.std.specs.Prelude.{ℕ, ◌≤◌, ◌<◌, ◌≡◌, List, [], ◌∷◌, length}
use Rattle.grammar_table.specs.Table.{expression_count}
use Rattle.match_desk.specs.steps.Desk.{Desk}
use Rattle.match_walks.specs.declared.Down.{Down}
use Rattle.match_walks.specs.declared.Down.TheVariants.{Done, Walk, Enter}
use Rattle.match_walks.specs.declared.Up.{Up}
use Rattle.match_walks.specs.declared.Up.TheVariants.{Over, Done as Parent, Walk as Next}
use Rattle.match_walks.specs.steps.Tasks.{walk, enter, takes, Step, Moves}
use Rattle.match_walks.specs.steps.Waits.{going, tasks_of, climb}

module _ (t s cs : List ℕ) (n : ℕ) where
  -- an expression can be walked at p
  pub record Walkable (k : List ℕ) (x p : ℕ) : Type 0 where
    pub desk : Desk t k (expression_count t)
    pub fits : expression_count t ≤ 1024
    pub few : n ≤ 64
    pub short : length s ≤ 65535
    pub place : p ≤ length s
    pub known : x ≤ expression_count t
    pub able : takes t s cs n x p ≡ 0 → ⊥

  -- walking x at p comes to y at q: x is done (1) or y is to be walked (2); or symbol y is to be entered (3)
  pub record Walked (k : List ℕ) (x p kind y q : ℕ) : Type 0 where
    pub few : (kind ≡ 3 → ⊥) → kind ≤ 2
    pub on : (kind ≡ 3 → ⊥) → (d : ℕ) → Moves t s cs n (tasks_of t k 2 d x) p (tasks_of t k kind d y) q 1
    pub known : kind ≡ 2 → y ≤ expression_count t
    pub small : y < 4294967296
    pub enters : kind ≡ 3 → (q ≡ p) × ((d : ℕ) → Step t s cs n (walk x d) p (enter y d ∷ []) p)

  -- x is done at p: then the body is done too (0), or its parent y is (1), or y is to be walked (2)
  pub record Risen (k : List ℕ) (x p kind y : ℕ) : Type 0 where
    pub top : kind ≡ 0 → (d : ℕ) → going t k d x ≡ []
    pub on : (kind ≡ 0 → ⊥) → (d : ℕ) → Moves t s cs n (tasks_of t k 1 d x) p (tasks_of t k kind d y) p 0
    pub known : kind ≡ 2 → y ≤ expression_count t
    pub small : y < 4294967296
    pub climbs : (kind ≡ 0 → ⊥) → (d : ℕ) → climb kind d y < climb 1 d x

  -- the same by what code answers
  abbrev pub Descends : (k : List ℕ) (x p : ℕ) → Down → Type 0
  Descends k x p (Done q) = Walked k x p 1 x q
  Descends k x p (Walk y) = Walked k x p 2 y p
  Descends k x p (Enter r) = Walked k x p 3 r p

  abbrev pub Ascends : (k : List ℕ) (x p : ℕ) → Up → Type 0
  Ascends k x p Over = Risen k x p 0 0
  Ascends k x p (Parent e) = Risen k x p 1 e
  Ascends k x p (Next y) = Risen k x p 2 y
