-- Rounds that need no walk: the byte at each place decides what it takes and lists. Assumes nothing: these are definitions.
use Rattle.std.specs.Prelude.{ℕ, ◌+◌, ◌-◌, ◌≤◌, ◌<◌, ◌≡◌, Bool, List, ◌∷◌, length, Option, None, Some, Result, Ok, Err}
use Rattle.match_walks.specs.steps.Tasks.{Task, again, listed, AllAble, to_do}
use Rattle.match_lone.specs.steps.Lone.{Repeated}
use Rattle.match_nodes.specs.declared.Offence.{Offence}
use Rattle.match_nodes.specs.declared.Reached.{Reached}
use Rattle.match_nodes.specs.steps.Passes.{Out, out, run}

-- the pass over room nodes, which writes or not, at o before and at i after: rounds of x on level d from p on have become those from q on
module _ (t s cs : List ℕ) (n room : ℕ) (w : Bool) where
  pub record Laned (o i : Out) (x d p q : ℕ) : Type 0 where
    pub place : q ≤ length s
    pub forward : p ≤ q
    pub stays : q ≡ p → i ≡ o
    pub same : (zs : List Task) → run room w i (listed t s cs n (again x d ∷ zs) q) ≡ run room w o (listed t s cs n (again x d ∷ zs) p)
    pub able : (zs : List Task) → AllAble t s cs n (again x d ∷ zs) p → AllAble t s cs n (again x d ∷ zs) q
    pub less : (zs : List Task) → to_do t s cs n (again x d ∷ zs) q + (q - p) ≤ to_do t s cs n (again x d ∷ zs) p

  -- or a node of them offends
  abbrev pub LaneStopped : Out → Out → ℕ → ℕ → ℕ → Type 0
  LaneStopped o i x d p = (zs : List Task) → i ≡ run room w o (listed t s cs n (again x d ∷ zs) p)

  -- one round, if its byte decides it; as many as there are; and those of a repeat's part alone, if there are some. ws are the words after them
  abbrev pub Stepped : Out → List ℕ → ℕ → ℕ → ℕ → Result (Option ℕ) Offence → Type 0
  Stepped o ws x d p (Ok None) = out ws o.at ≡ o
  Stepped o ws x d p (Ok (Some i)) = Laned o (out ws (Ok i)) x d p (p + 1)
  Stepped o ws x d p (Err e) = LaneStopped o (out ws (Err e)) x d p

  abbrev pub Strode : Out → List ℕ → ℕ → ℕ → ℕ → Result Reached Offence → Type 0
  Strode o ws x d p (Ok r) = Laned o (out ws (Ok r.at)) x d p r.place
  Strode o ws x d p (Err e) = LaneStopped o (out ws (Err e)) x d p

  abbrev pub Strides : List ℕ → Out → List ℕ → ℕ → ℕ → ℕ → Result (Option Reached) Offence → Type 0
  Strides k o ws x d p (Ok None) = out ws o.at ≡ o
  Strides k o ws x d p (Ok (Some r)) = (p < r.place) × Repeated t k x × Laned o (out ws (Ok r.at)) x d p r.place
  Strides k o ws x d p (Err e) = Repeated t k x × LaneStopped o (out ws (Err e)) x d p
