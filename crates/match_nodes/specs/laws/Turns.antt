-- The turns of a pass: entering a symbol, one turn, the start and the end. Assumes nothing.
use Rattle.std.specs.Prelude.{ℕ, zero, suc, ◌+◌, ◌-◌, ◌*◌, ◌≤◌, ◌<◌, ◌≡◌, Bool, length, set, Result, Ok, Err}
use Rattle.std.proofs.Math.Path.{refl, ap, subst, sym as flip}
use Rattle.std.proofs.Common.{◌∙◌}
use Rattle.std.proofs.Math.Bool.{true, false}
use mathlib.Core.List.{List, [], ◌∷◌, ◌++◌, append-nil}
use native.Mathlib.Omega.{arith}
use Rattle.std.proofs.Math.Dec.{ltb}
use borrow.Author.Tests.{ltb-true, ltb-false}
use Rattle.read_tokens.specs.Bounds.{depth_bound}
use Rattle.grammar.specs.Exp.{Exp, sym}
use Rattle.grammar_table.specs.Table.{symbol_word, symbol_count, expression_count}
use Rattle.match_meaning.specs.Meaning.{Node, nd}
use Rattle.match_meaning.proofs.laws.One.{one}
use Rattle.match_eval.specs.Eval.{body_of, cell_at, ev}
use Rattle.match_list.specs.Nodes.{walk_of, nodes_of, levels, list_of}
use Rattle.match_nodes.specs.declared.Offence.{Offence}
use Rattle.match_nodes.specs.declared.Stand.{Stand}
use Rattle.match_nodes.specs.steps.Passes.{Out, out, note, run}
use Rattle.match_cells.specs.laws.Sound.{plainly, sym-is}
use Rattle.match_cells.specs.laws.Agrees.{ev-sound}
use Rattle.match_eval.proofs.laws.EvalSteps.{cell-past}
use Rattle.match_eval.proofs.laws.Within.{cell-within}
use Rattle.match_list.proofs.laws.NodeSteps.{nodes-more, nodes-fails}
use Rattle.match_nodes.specs.laws.Passes.{run_none, run-stopped, noted-high}
use Rattle.grammar_table.specs.Trees.{tree_of, bodies_of}
use Rattle.match_cells.specs.laws.Rows.{bodies-length, body_at}
use Rattle.match_walks.specs.steps.Tasks.{Task, walk, enter, under, takes, walked, nodes, after, listed, AllAble, rank, cost, cost_of, to_do, Moves}
use Rattle.match_desk.specs.steps.Desk.{returns_at, parent_of, return_of, Desk, Silent}
use Rattle.match_walks.specs.steps.Waits.{going, waiting, tasks_of, climb}
use Rattle.match_walks.specs.steps.Walks.{Walkable, Walked, Risen}
use Rattle.match_nodes.specs.steps.Turns.{Ready, State, turns, Turned, Ended, Enters}
use Rattle.match_walks.specs.laws.Steps.{cost-one, cost-less, step-moves}
use Rattle.match_desk.specs.laws.Desks.{no-parent, desk-stays}
use Rattle.match_walks.specs.laws.Waits.{going-top, waiting-entered, going-entered}

-- however high a pass stands, it can go up less often than a task counts
pub climb-few : (m d x : ℕ) → d ≤ 256 → climb m d x < 1048576
unfolding climb
climb-few zero d x h = omega arith
climb-few (suc zero) d x h = omega (arith, h)
climb-few (suc (suc m)) d x h = omega arith

-- ── entering a symbol ──
module _ (t s cs : List ℕ) (n : ℕ) (ready : Ready t s cs n) where
  many : n ≡ length (bodies_of t)
  many = ready.count ∙ flip (bodies-length t)

  cell_in : (r p : ℕ) (b : Bool) → ltb r n ≡ b → (cell_at s cs n r p ≡ 0 → ⊥) → r < n
  cell_in r p true e f = ltb-true r n e
  cell_in r p false e f = absurd (f (flip (cell-past s cs n r p (ltb-false r n e))))

  -- a symbol that matches is one of the grammar
  pub symbol-in : (r p : ℕ) → (cell_at s cs n r p ≡ 0 → ⊥) → r < n
  symbol-in r p f = cell_in r p (ltb r n) refl f

  module _ (r p : ℕ) (h : r < n) (l : p ≤ length s) where
    body_is : body_of (bodies_of t) r ≡ tree_of t (symbol_word t r 1)
    body_is = body_at t r (omega (arith, h, ready.count))

    -- its cell says what its body takes
    pub cell-body : (b : ℕ) → b ≡ symbol_word t r 1 → takes t s cs n b p ≡ cell_at s cs n r p
    unfolding ev
    cell-body b e =
        ap (λ (x : ℕ). ev s cs n (tree_of t x) p) e ∙ ap (λ (x : Exp ℕ). ev s cs n x p) (flip body_is)
        ∙ ap (λ (m : ℕ). ev s cs m (body_of (bodies_of t) r) p) many
        ∙ (one (plainly (bodies_of t)) s (sym-is (bodies_of t) s r p (ev s cs (length (bodies_of t)) (body_of (bodies_of t) r) p) (ev-sound (bodies_of t) s cs ready.right (body_of
        (bodies_of t) r) p l) 0).1 (ev-sound (bodies_of t) s cs ready.right (sym r) p l 0).1).0
        ∙ ap (λ (m : ℕ). cell_at s cs m r p) (flip many)

  -- the nodes of a symbol that matches: its own, then those of its body
  module _ (d r p c b : ℕ) (inside : p ≤ length s) (able : cell_at s cs n r p ≡ 0 → ⊥) (depth : d ≤ 256) (cell : c ≡ cell_at s cs n r p) (body : b ≡ symbol_word t r 1) where
    pub under-is : nd r p (p + (c - 1)) d ∷ walked t s cs n b (d + 1) p ≡ under t s cs n d r p
    unfolding under levels depth_bound
    under-is =
        let f : c ≡ 0 → ⊥ = λ z. able (flip cell ∙ z) in
        let i : levels - (d + 1) ≡ levels - d - 1 = omega arith in
        let g : levels - d ≡ 0 → ⊥ = λ z. omega (arith, z, depth) in
        ap (λ (x : List Node). nd r p (p + (c - 1)) d ∷ x)
        (ap (λ (x : ℕ). walk_of s (λ e i. ev s cs n e i) (λ r i. nodes_of (bodies_of t) s cs (levels - (d + 1)) (d + 1) r i) (tree_of t x) p) body
        ∙ ap (λ (x : Exp ℕ). walk_of s (λ e i. ev s cs n e i) (λ r i. nodes_of (bodies_of t) s cs (levels - (d + 1)) (d + 1) r i) x p) (flip (body_is r p (symbol-in r p able) inside))
        ∙ ap (λ (m : ℕ). walk_of s (λ e i. ev s cs m e i) (λ r i. nodes_of (bodies_of t) s cs (levels - (d + 1)) (d + 1) r i) (body_of (bodies_of t) r) p) many
        ∙ ap (λ (x : ℕ). walk_of s (λ e i. ev s cs (length (bodies_of t)) e i) (λ r i. nodes_of (bodies_of t) s cs x (d + 1) r i) (body_of (bodies_of t) r) p) i)
        ∙ nodes-more (bodies_of t) s cs d r p (levels - d) c g (cell ∙ ap (λ (m : ℕ). cell_at s cs m r p) many) f

  module _ (room : ℕ) (w : Bool) (d r p c b at : ℕ) (ws words : List ℕ) (inside : p ≤ length s) (able : cell_at s cs n r p ≡ 0 → ⊥) (depth : d ≤ 256)
      (cell : c ≡ cell_at s cs n r p) (body : b ≡ symbol_word t r 1) where
    -- a node that offends stops the pass
    pub enter-stopped : (e : Offence) → out words (Err e) ≡ note room w (out ws (Ok at)) (nd r p (p + (c - 1)) d) → (zs : List Task)
        → Ended t s cs n room w (out ws (Ok at)) (out words (Err e)) (enter r d ∷ zs) p
    unfolding listed nodes run
    enter-stopped e noted zs =
        run-stopped room w words e (walked t s cs n b (d + 1) p ++ listed t s cs n zs (after t s cs n (enter r d) p))
        ∙ ap (λ (u : Out). run room w u (walked t s cs n b (d + 1) p ++ listed t s cs n zs (after t s cs n (enter r d) p))) noted
        ∙ ap (λ (l : List Node). run room w (out ws (Ok at)) (l ++ listed t s cs n zs (after t s cs n (enter r d) p))) (under-is d r p c b inside able depth cell body)

  module _ (room : ℕ) (w : Bool) (d r p c b at i : ℕ) (ws words : List ℕ) (inside : p ≤ length s) (able : cell_at s cs n r p ≡ 0 → ⊥) (depth : d ≤ 256)
      (cell : c ≡ cell_at s cs n r p) (body : b ≡ symbol_word t r 1) (noted : out words (Ok i) ≡ note room w (out ws (Ok at)) (nd r p (p + (c - 1)) d)) where
    abbrev o : Out
    o = out words (Ok i)

    within-n : r < n
    within-n = symbol-in r p able

    small_b : b ≤ 1024
    small_b = omega (arith, body, ready.small r within-n, ready.fits)

    after_is : after t s cs n (walk b (d + 1)) p ≡ after t s cs n (enter r d) p
    unfolding after
    after_is = ap (λ (v : ℕ). p + (v - 1)) (cell-body r p within-n inside b body)

    not-deep : d ≤ 255
    unfolding depth_bound
    not-deep = noted-high room w ws words at i (nd r p (p + (c - 1)) d) noted

    fall : cost (length s) (rank b (d + 1)) + 1 ≤ cost (length s) (rank 0 d)
    unfolding rank
    fall = cost-less (length s) ((257 - (d + 1)) * 2048 + b) ((257 - d) * 2048 + 0) (omega (arith, depth, small_b))

    enter-same : (zs : List Task) → run room w o (listed t s cs n (walk b (d + 1) ∷ zs) p) ≡ run room w (out ws (Ok at)) (listed t s cs n (enter r d ∷ zs) p)
    unfolding listed nodes run
    enter-same zs =
        ap (λ (i : ℕ). run room w o (walked t s cs n b (d + 1) p ++ listed t s cs n zs i)) after_is
        ∙ ap (λ (u : Out). run room w u (walked t s cs n b (d + 1) p ++ listed t s cs n zs (after t s cs n (enter r d) p))) noted
        ∙ ap (λ (l : List Node). run room w (out ws (Ok at)) (l ++ listed t s cs n zs (after t s cs n (enter r d) p))) (under-is d r p c b inside able depth cell body)

    -- x is the symbol's use, on whose level are the tasks behind it
    module _ (k : List ℕ) (x : ℕ) (desk : Desk t k (expression_count t)) (small-x : x < 4294967296) (rest : AllAble t s cs n (going t k d x ++ waiting t k d) (after t s cs n (enter r d) p)) where
      abbrev behind : List Task
      behind = going t k d x ++ waiting t k d

      -- a body that lists no node is passed over
      passed-same : Silent (tree_of t b) → run room w o (listed t s cs n behind (p + (c - 1))) ≡ run room w (out ws (Ok at)) (listed t s cs n (enter r d ∷ behind) p)
      unfolding listed nodes after
      passed-same h =
          ap (λ (l : List Node). run room w o (l ++ listed t s cs n behind (p + (c - 1)))) (flip (h s (λ e i. ev s cs n e i) (λ r i. under t s cs n (d + 1) r i) p))
          ∙ ap (λ (v : ℕ). run room w o (walked t s cs n b (d + 1) p ++ listed t s cs n behind (p + (v - 1)))) (cell ∙ flip (cell-body r p within-n inside b body))
          ∙ enter-same behind

      pub passed : Silent (tree_of t b) → Turned t s cs n room w (out ws (Ok at)) o (enter r d ∷ (going t k d x ++ waiting t k d)) p 0 k 1 d x (p + (c - 1))
      unfolding turns to_do cost_of after
      passed h =
          record {
            same = passed-same h;
            state =
                record {
                  desk = desk;
                  place = omega (arith, cell, cell-within s cs n r p inside);
                  level = depth;
                  small = small-x;
                  known = λ i. absurd (omega (arith, i));
                  able = subst (λ (i : ℕ). AllAble t s cs n behind i) (ap (λ (v : ℕ). p + (v - 1)) (flip cell)) rest;
                };
            less =
                omega (arith, climb-few 1 d x depth, cost-one (length s) (rank 0 d), ap (λ (v : ℕ). to_do t s cs n behind (p + (v - 1))) cell);
          }

      entered-tasks : tasks_of t (set k (returns_at + d) x) 2 (d + 1) b ≡ walk b (d + 1) ∷ behind
      entered-tasks =
          ap (λ (zs : List Task). walk b (d + 1) ∷ (zs ++ waiting t (set k (returns_at + d) x) (d + 1)))
          (going-entered t k (expression_count t) desk ready.fits d x depth (d + 1) b (ap (λ (i : ℕ). parent_of k i) body ∙ desk.roots r (omega (arith, within-n, ready.count))))
          ∙ ap (λ (zs : List Task). walk b (d + 1) ∷ zs) (waiting-entered t k (expression_count t) desk ready.fits d x depth)

      pub entered : Turned t s cs n room w (out ws (Ok at)) o (enter r d ∷ (going t k d x ++ waiting t k d)) p 0 (set k (returns_at + d) x) 2 (d + 1) b p
      unfolding turns to_do cost_of climb
      entered =
          record {
            same = ap (λ (zs : List Task). run room w o (listed t s cs n zs p)) entered-tasks ∙ enter-same behind;
            state =
                record {
                  desk = desk-stays t k (expression_count t) desk ready.fits d x depth;
                  place = inside;
                  level = omega (arith, not-deep);
                  small = omega (arith, small_b);
                  known = λ i. omega (arith, body, ready.small r within-n);
                  able =
                      subst (λ (zs : List Task). AllAble t s cs n zs p) (flip entered-tasks)
                      (λ z. able (flip (cell-body r p within-n inside b body) ∙ z), subst (λ (i : ℕ). AllAble t s cs n behind i) (flip after_is) rest);
                };
            less = omega (arith, fall, ap (λ (zs : List Task). to_do t s cs n zs p) entered-tasks, ap (λ (i : ℕ). to_do t s cs n behind i) after_is);
          }

-- ── one turn ──
module _ (t s cs : List ℕ) (n room : ℕ) (w : Bool) (o : Out) (k : List ℕ) (m d x p : ℕ) (state : State t s cs n k m d x p) where
  -- an expression that is to be walked
  module _ (walks : 2 ≤ m) where
    as-walk : tasks_of t k m d x ≡ walk x d ∷ (going t k d x ++ waiting t k d)
    as-walk = go m walks
      where
        go : (m : ℕ) → 2 ≤ m → tasks_of t k m d x ≡ walk x d ∷ (going t k d x ++ waiting t k d)
        go zero h = absurd (omega (arith, h))
        go (suc zero) h = absurd (omega (arith, h))
        go (suc (suc m)) h = refl

    able-walk : AllAble t s cs n (walk x d ∷ (going t k d x ++ waiting t k d)) p
    able-walk = subst (λ (zs : List Task). AllAble t s cs n zs p) as-walk state.able

    pub walkable : Ready t s cs n → Walkable t s cs n k x p
    walkable r =
        record { desk = state.desk; fits = r.fits; few = r.few; short = r.short; place = state.place; known = state.known walks; able = able-walk.0 }

    pub turned_walk : (kind y q : ℕ) → Walked t s cs n k x p kind y q → (kind ≡ 3 → ⊥) → Turned t s cs n room w o o (tasks_of t k m d x) p (climb m d x) k kind d y q
    unfolding turns
    turned_walk kind y q h f =
        record {
          same = ap (run room w o) (moves.same ∙ ap (λ (zs : List Task). listed t s cs n zs p) (flip as-walk));
          state =
              record {
                desk = state.desk;
                place = moves.place;
                level = state.level;
                small = h.small;
                known = λ i. h.known (omega (arith, i, h.few f));
                able = moves.able able-walk;
              };
          less = omega (arith, moves.less, climb-few kind d y state.level, ap (λ (zs : List Task). to_do t s cs n zs p) as-walk);
        }
      where
        moves : Moves t s cs n (tasks_of t k 2 d x) p (tasks_of t k kind d y) q 1
        moves = h.on f d

    -- a symbol's use: what is behind it waits
    pub rest-able : (y : ℕ) → Walked t s cs n k x p 3 y p → (cell_at s cs n y p ≡ 0 → ⊥) × AllAble t s cs n (going t k d x ++ waiting t k d) (after t s cs n (enter y d) p)
    rest-able y h = ((h.enters refl).1 d).able (going t k d x ++ waiting t k d) able-walk.1

    module _ (y : ℕ) (h : Walked t s cs n k x p 3 y p) where
      entering : Moves t s cs n (walk x d ∷ (going t k d x ++ waiting t k d)) p (enter y d ∷ (going t k d x ++ waiting t k d)) p 1
      entering = step-moves t s cs n (walk x d) p p (enter y d ∷ []) (going t k d x ++ waiting t k d) ((h.enters refl).1 d)

      enter-list : listed t s cs n (enter y d ∷ (going t k d x ++ waiting t k d)) p ≡ listed t s cs n (tasks_of t k m d x) p
      enter-list = entering.same ∙ ap (λ (zs : List Task). listed t s cs n zs p) (flip as-walk)

      pub turned-enter : (ws k' : List ℕ) (r : Result Stand Offence) → Enters t s cs n room w o ws (enter y d ∷ (going t k d x ++ waiting t k d)) p 0 k' r
          → Enters t s cs n room w o ws (tasks_of t k m d x) p (climb m d x) k' r
      turned-enter ws k' (Err e) g = g ∙ ap (run room w o) enter-list
      turned-enter ws k' (Ok r) g =
          record {
            same = g.same ∙ ap (run room w o) enter-list;
            state = g.state;
            less = omega (arith, g.less, entering.less, ap (λ (zs : List Task). to_do t s cs n zs p) as-walk);
          }

  -- one that is done
  module _ (done : m ≡ 1) where
    as-done : tasks_of t k m d x ≡ tasks_of t k 1 d x
    as-done = ap (λ (i : ℕ). tasks_of t k i d x) done

    able-done : AllAble t s cs n (tasks_of t k 1 d x) p
    able-done = subst (λ (zs : List Task). AllAble t s cs n zs p) as-done state.able

    pub turned_up : (kind y : ℕ) → Risen t s cs n k x p kind y → (kind ≡ 0 → ⊥) → kind ≤ 2 → Turned t s cs n room w o o (tasks_of t k m d x) p (climb m d x) k kind d y p
    unfolding turns
    turned_up kind y h f g =
        record {
          same = ap (run room w o) (moves.same ∙ ap (λ (zs : List Task). listed t s cs n zs p) (flip as-done));
          state =
              record {
                desk = state.desk;
                place = moves.place;
                level = state.level;
                small = h.small;
                known = λ i. h.known (omega (arith, i, g));
                able = moves.able able-done;
              };
          less =
              omega (arith, moves.less, h.climbs f d, ap (λ (zs : List Task). to_do t s cs n zs p) as-done, ap (λ (i : ℕ). climb i d x) done);
        }
      where
        moves : Moves t s cs n (tasks_of t k 1 d x) p (tasks_of t k kind d y) p 0
        moves = h.on f d

    -- a body that is done: back to the level above, or the end
    module _ (y : ℕ) (h : Risen t s cs n k x p 0 y) where
      top-tasks : tasks_of t k m d x ≡ waiting t k d
      top-tasks = as-done ∙ ap (λ (zs : List Task). zs ++ waiting t k d) (h.top refl d)

      over-tasks : d ≡ 0 → tasks_of t k m d x ≡ []
      unfolding waiting
      over-tasks z = top-tasks ∙ ap (waiting t k) z

      up-some : 0 < climb m d x
      unfolding climb
      up-some = subst (λ (i : ℕ). 0 < climb i d x) (flip done) (omega arith)

      pub turned-over : d ≡ 0 → Ended t s cs n room w o o (tasks_of t k m d x) p
      unfolding listed run
      turned-over z = ap (λ (zs : List Task). run room w o (listed t s cs n zs p)) (flip (over-tasks z))

      -- the word of the level above
      module _ (e x' : ℕ) (above : d ≡ suc e) (is : x' ≡ return_of k e) (small : x' < 4294967296) where
        level-tasks : tasks_of t k m d x ≡ tasks_of t k 1 e x'
        unfolding waiting
        level-tasks = top-tasks ∙ ap (waiting t k) above ∙ ap (λ (i : ℕ). going t k e i ++ waiting t k e) (flip is)

        level-less : climb 1 e x' < climb m d x
        unfolding climb
        level-less = subst (λ (i : ℕ). climb 1 e x' < climb i d x) (flip done) (omega (arith, above))

        pub turned-level : Turned t s cs n room w o o (tasks_of t k m d x) p (climb m d x) k 1 e x' p
        unfolding turns
        turned-level =
            record {
              same = ap (λ (zs : List Task). run room w o (listed t s cs n zs p)) (flip level-tasks);
              state =
                  record {
                    desk = state.desk;
                    place = state.place;
                    level = omega (arith, above, state.level);
                    small = small;
                    known = λ i. absurd (omega (arith, i));
                    able = subst (λ (zs : List Task). AllAble t s cs n zs p) level-tasks state.able;
                  };
              less = omega (arith, level-less, ap (λ (zs : List Task). to_do t s cs n zs p) level-tasks);
            }

-- ── the start and the end ──
module _ (t s cs : List ℕ) (n : ℕ) (k : List ℕ) (x : ℕ) (desk : Desk t k (expression_count t)) (fits : expression_count t ≤ 1024) (far : 1025 ≤ x) where
  -- before the first turn the start symbol is to be entered, and nothing waits
  start-waits : going t k 0 x ++ waiting t k 0 ≡ []
  unfolding waiting
  start-waits = ap (λ (zs : List Task). zs ++ []) (going-top t k (expression_count t) desk fits 0 x (no-parent t k (expression_count t) desk fits x far))

  pub start-able : (q : ℕ) → AllAble t s cs n (going t k 0 x ++ waiting t k 0) q
  start-able q = subst (λ (zs : List Task). AllAble t s cs n zs q) (flip start-waits) tt

  pub start-list : listed t s cs n (enter 0 0 ∷ (going t k 0 x ++ waiting t k 0)) 0 ≡ list_of (bodies_of t) s cs
  unfolding listed nodes under list_of
  start-list =
      let z : levels - 0 ≡ levels = omega arith in
      ap (λ (zs : List Task). listed t s cs n (enter 0 0 ∷ zs) 0) start-waits ∙ append-nil (under t s cs n 0 0 0) ∙ ap (λ (x : ℕ). nodes_of (bodies_of t) s cs x 0 0 0) z

-- a start symbol that fails lists nothing
pub fail-list : (t s cs : List ℕ) (n room : ℕ) (w : Bool) (c : ℕ) (o : Out) → n ≡ symbol_count t → c ≡ cell_at s cs n 0 0 → c ≡ 0 → o ≡ run room w o (list_of (bodies_of t) s cs)
unfolding list_of
fail-list t s cs n room w c o k h z =
    run_none room w o (nodes_of (bodies_of t) s cs levels 0 0 0) (nodes-fails (bodies_of t) s cs 0 0 0 levels c (h ∙ ap (λ (m : ℕ). cell_at s cs m 0 0) (k ∙ flip (bodies-length t))) z)
