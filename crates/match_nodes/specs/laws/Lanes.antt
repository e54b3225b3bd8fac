-- Rounds that need no walk: what a byte decides of one, one after the other, and the turn that they are. Assumes nothing.
use Rattle.std.specs.Prelude.{ℕ, ◌+◌, ◌≤◌, ◌<◌, ◌≡◌, length, Bool, Some, Err}
use Rattle.std.proofs.Math.Path.{refl, ap, subst, sym as flip}
use Rattle.std.proofs.Common.{◌∙◌}
use mathlib.Core.List.{List, [], ◌∷◌, ◌++◌}
use native.Mathlib.Omega.{arith}
use Rattle.grammar.specs.Exp.{Exp, sym}
use Rattle.grammar_table.specs.Table.{symbol_word, expression_count}
use Rattle.grammar_table.specs.Trees.{tree_of}
use Rattle.match_meaning.specs.Meaning.{Node, nd}
use Rattle.match_eval.specs.Eval.{cell_at, ev}
use Rattle.match_eval.specs.steps.Firsts.{byte_at}
use Rattle.match_eval.specs.steps.Memory.{Knows}
use Rattle.match_eval.proofs.laws.Memory.{knows-from}
use Rattle.match_eval.proofs.laws.Within.{ev-within}
use Rattle.match_list.specs.Nodes.{walk_of}
use Rattle.match_desk.specs.steps.Desk.{mark_of, Desk}
use Rattle.match_walks.specs.steps.Tasks.{Task, walk, again, under, takes, walked, nodes, after, listed, AllAble, to_do, Step}
use Rattle.match_walks.specs.steps.Waits.{going, waiting, tasks_of, climb}
use Rattle.match_walks.specs.laws.Walks.{again-more}
use Rattle.match_lone.specs.steps.Lone.{Stands, Settles, Lone, Repeated}
use Rattle.match_lone.specs.declared.Round.TheVariants.{Silent, Node as Round}
use Rattle.match_nodes.specs.declared.Offence.{Offence}
use Rattle.match_nodes.specs.steps.Passes.{Out, out, run}
use Rattle.match_nodes.specs.steps.Turns.{Ready, State, turns, Turned, Ended}
use Rattle.match_nodes.specs.steps.Lanes.{Laned, LaneStopped}
use Rattle.match_nodes.specs.laws.Passes.{run-append, run-stopped}
use Rattle.match_nodes.specs.laws.Turns.{climb-few, symbol-in, under-is}

-- ── what the byte at p decides of x ──
module _ (t s cs : List ℕ) (n : ℕ) (mem k : List ℕ) (ready : Ready t s cs n) (desk : Desk t k (expression_count t)) (knows : Knows t s cs n mem 0 0) where
  module _ (x p b : ℕ) (known : x ≤ expression_count t) (inside : p ≤ length s) (byte : b ≡ byte_at s p) where
    here : Knows t s cs n mem 0 p
    here = knows-from t s cs mem n 0 0 0 p (omega arith) (omega arith) knows

    -- what stands for a part and lists no node
    quiet : (z v : ℕ) → z ≤ expression_count t → Stands t mem b z v → mark_of k v ≡ 0 → (d : ℕ) → [] ≡ walked t s cs n z d p
    quiet z v l h m d =
        flip (desk.silent v (omega (arith, h.small, l)) m s (λ e i. ev s cs n e i) (λ r i. under t s cs n d r i) p)
        ∙ h.lists s cs n p here inside byte (λ r i. under t s cs n d r i)

    pub lone-none : Lone t mem k b x (Some Silent) → (takes t s cs n x p ≡ 2) × ((d : ℕ) → [] ≡ walked t s cs n x d p)
    lone-none u = (u.1.two s cs n p here inside byte, quiet x u.0 known u.1.stands u.2)

    pub lone-node : (r : ℕ) → Lone t mem k b x (Some (Round r))
        → (r < 64) × (takes t s cs n x p ≡ 2) × ((d : ℕ) → d ≤ 256 → nd r p (p + 1) d ∷ [] ≡ walked t s cs n x d p)
    unfolding walk_of ev
    lone-node r u =
        let hx : Settles t mem b x u.0.0 = u.0.1 in
        let tree : tree_of t u.0.0 ≡ sym r = u.0.2 in
        let cell : 2 ≡ cell_at s cs n r p = flip (hx.ends s cs n p here inside byte) ∙ ap (λ (e : Exp ℕ). ev s cs n e p) tree in
        let able : cell_at s cs n r p ≡ 0 → ⊥ = λ z. omega (arith, z, cell) in
        let few : r < n = symbol-in t s cs n ready r p able in (
          u.1.0,
          hx.two s cs n p here inside byte,
          λ d l.
              ap (λ (w : List Node). nd r p (p + 1) d ∷ w) (quiet (symbol_word t r 1) u.1.1.0 (ready.small r few) u.1.1.1 u.1.1.2 (d + 1))
              ∙ under-is t s cs n ready d r p 2 (symbol_word t r 1) inside able l cell refl
              ∙ ap (λ (e : Exp ℕ). walk_of s (λ e i. ev s cs n e i) (λ r i. under t s cs n d r i) e p) (flip tree)
              ∙ hx.stands.lists s cs n p here inside byte (λ r i. under t s cs n d r i),
        )

-- ── one after the other ──
module _ (t s cs : List ℕ) (n room : ℕ) (w : Bool) (x d : ℕ) where
  pub lane-none : (o : Out) (p : ℕ) → p ≤ length s → Laned t s cs n room w o o x d p p
  lane-none o p l = record { place = l; forward = omega arith; stays = λ e. refl; same = λ zs. refl; able = λ zs a. a; less = λ zs. omega arith }

  pub lane-step : (o i : Out) (p : ℕ) → x < 2048 → p ≤ length s → takes t s cs n x p ≡ 2 → i ≡ run room w o (walked t s cs n x d p) → Laned t s cs n room w o i x d p (p + 1)
  unfolding listed nodes after to_do
  lane-step o i p small l two is =
      record {
        place = omega (arith, two, ev-within s cs n (tree_of t x) p l);
        forward = omega arith;
        stays = λ e. absurd (omega (arith, e));
        same = λ zs.
            ap (λ (u : Out). run room w u (listed t s cs n (again x d ∷ zs) (p + 1))) is
            ∙ flip (run-append room w o (walked t s cs n x d p) (listed t s cs n (again x d ∷ zs) (p + 1)))
            ∙ ap (λ (q : ℕ). run room w o (walked t s cs n x d p ++ listed t s cs n (again x d ∷ zs) q)) next
            ∙ ap (run room w o) (step.same zs);
        able = λ zs a. subst (λ (q : ℕ). AllAble t s cs n (again x d ∷ zs) q) (flip next) (step.able zs a.1).1;
        less = λ zs. omega (arith, step.less zs, ap (λ (q : ℕ). to_do t s cs n (again x d ∷ zs) q) next);
      }
    where
      step : Step t s cs n (again x d) p (walk x d ∷ again x d ∷ []) p
      step = again-more t s cs n d p l x 2 small (flip two) (omega arith)

      next : p + 1 ≡ after t s cs n (walk x d) p
      next = omega (arith, two)

  -- a node that offends
  pub lane-stops : (o : Out) (ws : List ℕ) (e : Offence) (p : ℕ) → x < 2048 → p ≤ length s → takes t s cs n x p ≡ 2 → out ws (Err e) ≡ run room w o (walked t s cs n x d p)
      → LaneStopped t s cs n room w o (out ws (Err e)) x d p
  unfolding listed nodes
  lane-stops o ws e p small l two is zs =
      run-stopped room w ws e (listed t s cs n (again x d ∷ zs) (after t s cs n (walk x d) p))
      ∙ ap (λ (u : Out). run room w u (listed t s cs n (again x d ∷ zs) (after t s cs n (walk x d) p))) is
      ∙ flip (run-append room w o (walked t s cs n x d p) (listed t s cs n (again x d ∷ zs) (after t s cs n (walk x d) p)))
      ∙ ap (run room w o) ((again-more t s cs n d p l x 2 small (flip two) (omega arith)).same zs)

  pub lane-on : (o i j : Out) (p q r : ℕ) → Laned t s cs n room w o i x d p q → Laned t s cs n room w i j x d q r → Laned t s cs n room w o j x d p r
  lane-on o i j p q r h g =
      record {
        place = g.place;
        forward = omega (arith, h.forward, g.forward);
        stays = λ e. g.stays (omega (arith, e, h.forward, g.forward)) ∙ h.stays (omega (arith, e, h.forward, g.forward));
        same = λ zs. g.same zs ∙ h.same zs;
        able = λ zs a. g.able zs (h.able zs a);
        less = λ zs. omega (arith, h.less zs, g.less zs, h.forward, g.forward);
      }

-- ── the turn that they are ──
module _ (t s cs : List ℕ) (n room : ℕ) (w : Bool) (o i : Out) (k : List ℕ) (m d x p q : ℕ) (state : State t s cs n k m d x p) (done : m ≡ 1) where
  pub turned-stopped : Repeated t k x → LaneStopped t s cs n room w o i x d p → Ended t s cs n room w o i (tasks_of t k m d x) p
  turned-stopped again-is h =
      h (going t k d again-is.1.0 ++ waiting t k d)
      ∙ ap (λ (zs : List Task). run room w o (listed t s cs n zs p)) (flip (ap (λ (j : ℕ). tasks_of t k j d x) done ∙ ap (λ (zs : List Task). zs ++ waiting t k d) (again-is.1.1 d)))

  pub turned-lane : Repeated t k x → Laned t s cs n room w o i x d p q → p < q → Turned t s cs n room w o i (tasks_of t k m d x) p (climb m d x) k 1 d x q
  unfolding turns
  turned-lane again-is h moved =
      record {
        same = ap (λ (zs : List Task). run room w i (listed t s cs n zs q)) tasks ∙ h.same behind ∙ ap (λ (zs : List Task). run room w o (listed t s cs n zs p)) (flip before);
        state =
            record {
              desk = state.desk;
              place = h.place;
              level = state.level;
              small = state.small;
              known = λ j. absurd (omega (arith, j));
              able =
                  subst (λ (zs : List Task). AllAble t s cs n zs q) (flip tasks)
                  (h.able behind (subst (λ (zs : List Task). AllAble t s cs n zs p) before state.able));
            };
        less =
            omega (
              arith,
              h.less behind,
              h.forward,
              moved,
              climb-few 1 d x state.level,
              ap (λ (zs : List Task). to_do t s cs n zs q) tasks,
              ap (λ (zs : List Task). to_do t s cs n zs p) before,
            );
      }
    where
      behind : List Task
      behind = going t k d again-is.1.0 ++ waiting t k d

      tasks : tasks_of t k 1 d x ≡ again x d ∷ behind
      tasks = ap (λ (zs : List Task). zs ++ waiting t k d) (again-is.1.1 d)

      before : tasks_of t k m d x ≡ again x d ∷ behind
      before = ap (λ (j : ℕ). tasks_of t k j d x) done ∙ tasks
