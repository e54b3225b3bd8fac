-- The steps of the code, one a symbol and one a node: each finds room, and together they give the summaries. Assumes nothing.
use Prim.Native.Nat.{ℕ, zero, suc, ◌+◌, ◌-◌, ◌≤◌, ◌<◌}
use Rattle.std.specs.Prelude.{◌≡◌, refl, Bool, true, false, cond, List, [], ◌∷◌, ◌++◌, leb, length, get_or, set, drop}
use Rattle.std.proofs.Math.Path.{ap}
use Rattle.std.proofs.Common.{subst, ◌∙◌, sym as flip, ⊎_elim, append_assoc, arith, length-set, drop-cons, get_or-set_same, get_or-set_other, lt-ltb, le-ltb, eq-eqb, ne_eqb}
use Rattle.std.proofs.lemmas.Bool.{false≢true}
use Rattle.std.proofs.Math.Option.{none}
use Rattle.std.proofs.Math.ListN.{get_or-append}
use Rattle.std.proofs.lemmas.List.{set_at, set-append_left}
use Rattle.base_facts.specs.laws.Numbers.{lt-or-ge, same?}
use Rattle.grammar_table.specs.Table.{up_to}
use Rattle.grammar_table.specs.laws.Places.{up_to-long, up_to-at, is-up_to}
use Rattle.match_meaning.specs.Meaning.{Node}
use Rattle.match_list.specs.Nodes.{node_at, nodes_at, room_of}
use Rattle.read_tokens.specs.Bounds.{node_words}
use Rattle.tree_list.specs.Preorder.{bad_node}
use Rattle.tree_list.specs.laws.NodeWords.{nodes-long}
use Rattle.tree_summary.specs.declared.Summary.{Summary}
use Rattle.tree_summary.specs.declared.Change.{Change}
use Rattle.tree_summary.specs.Summary.{is_of, count_of, summary_of, absent, summaries}
use Rattle.tree_summary.specs.Adding.{reach_of, bytes_added, adding, clearing, changed_by}
use Rattle.tree_summary.specs.steps.Sweeping.{place_at, change_at, stepped, Sweepable, Fits}
use Rattle.tree_summary.specs.laws.Records.{absent-zero, covered-most}
use Rattle.tree_summary.specs.laws.Known.{nodes-suc, good-up-to, known}
use Rattle.tree_summary.specs.laws.OneRecord.{one-record}

pub sooner : (ws : List ℕ) (R steps i : ℕ) → Sweepable ws R steps → i < steps → Sweepable ws R (suc i)
sooner ws R steps i s h =
    record { n = s.n; good = s.good; few = s.few; short = s.short; long = s.long; within = omega (arith, s.within) }

pub stepped-long : (ws : List ℕ) (R i : ℕ) (rs : List Summary) → length (stepped ws R i rs) ≡ length rs
unfolding stepped
stepped-long ws R zero rs = refl
stepped-long ws R (suc i) rs = length-set (stepped ws R i rs) (place_at ws R i) _ ∙ stepped-long ws R i rs

-- ── the summaries ──
-- the record of one symbol
pub summaries-at : (n R : ℕ) (xs : List Node) (rs : List Summary) (r : ℕ) → r < R → get_or (summaries n R xs rs) r absent ≡ summary_of n xs r
unfolding summaries
summaries-at n R xs rs r h =
    get_or-append (up_to (summary_of n xs) R) (drop R rs) absent r (omega (arith, up_to-long (summary_of n xs) R)) ∙ up_to-at (summary_of n xs) R r absent h

-- it has no more nodes than there are
count_most : (r : ℕ) (xs : List Node) → count_of r xs ≤ length xs
unfolding count_of
count_most r [] = omega arith
count_most r (x ∷ xs) = by (is_of r x) (count_most r xs)
  where
    by : (b : Bool) → count_of r xs ≤ length xs → cond b (suc (count_of r xs)) (count_of r xs) ≤ suc (length xs)
    by true h = omega arith
    by false h = omega arith

-- ── one step ──
module _ (ws : List ℕ) (R : ℕ) where
  -- a symbol's
  place-first : (i : ℕ) → i < R → place_at ws R i ≡ i
  unfolding place_at
  place-first i h = rw (lt-ltb i R h)

  change-first : (i : ℕ) → i < R → change_at ws R i ≡ clearing
  unfolding change_at
  change-first i h = rw (lt-ltb i R h)

  -- a node's
  minus : (k : ℕ) → R + k - R ≡ k
  minus k = omega arith

  place-node : (k : ℕ) → place_at ws R (R + k) ≡ (node_at ws k).symbol
  unfolding place_at
  place-node k = rw (le-ltb (R + k) R (omega arith), minus k)

  change-node : (k : ℕ) → change_at ws R (R + k) ≡ adding k (bytes_added (nodes_at ws 0 k) (node_at ws k))
  unfolding change_at
  change-node k = rw (le-ltb (R + k) R (omega arith), minus k)

  step_by : (i : ℕ) (rs before : List Summary) (p : ℕ) (u : Change) → stepped ws R i rs ≡ before → place_at ws R i ≡ p → change_at ws R i ≡ u
      → stepped ws R (suc i) rs ≡ set before p (changed_by (get_or before p absent) u)
  unfolding stepped
  step_by i rs before p u e f g = rw (e, f, g)

-- ── records, the first R by number ──
-- one more of them
set_next : (f : ℕ → Summary) (i : ℕ) (rs : List Summary) (v : Summary) → i < length rs → v ≡ f i → set (up_to f i ++ drop i rs) i v ≡ up_to f (suc i) ++ drop (suc i) rs
unfolding up_to
set_next f i rs v h e =
    ap (λ (l : List Summary). set (up_to f i ++ l) i v) (drop-cons rs i absent h)
    ∙ set_at (up_to f i) (get_or rs i absent) (drop (suc i) rs) v i (up_to-long f i)
    ∙ ap (λ (y : Summary). up_to f i ++ (y ∷ drop (suc i) rs)) e
    ∙ flip (append_assoc (up_to f i) (f i ∷ []) (drop (suc i) rs))

-- one of them is another
set-one : (f g : ℕ → Summary) (R s : ℕ) (rs : List Summary) (v : Summary) → s < R → v ≡ g s → ((i : ℕ) → (i ≡ s → ⊥) → f i ≡ g i)
    → set (up_to f R ++ rs) s v ≡ up_to g R ++ rs
set-one f g R s rs v h own other =
    set-append_left (up_to f R) rs s v (omega (arith, up_to-long f R))
    ∙ ap (λ (l : List Summary). l ++ rs) (is-up_to absent g (set (up_to f R) s v) R (length-set (up_to f R) s v ∙ up_to-long f R) each)
  where
    each : (i : ℕ) → i < R → get_or (set (up_to f R) s v) i absent ≡ g i
    each i p =
        ⊎_elim (λ (e : i ≡ s). rw e (get_or-set_same (up_to f R) s v absent (omega (arith, up_to-long f R)) ∙ own))
        (λ (d : i ≡ s → ⊥). get_or-set_other (up_to f R) s i v absent d ∙ up_to-at f R i absent p ∙ other i d) (same? i s)

-- ── the first steps make the records absent ──
cleared : (ws : List ℕ) (R n : ℕ) (rs : List Summary) → R ≤ length rs → (i : ℕ) → i ≤ R → stepped ws R i rs ≡ up_to (summary_of n []) i ++ drop i rs
unfolding stepped up_to changed_by count_of
cleared ws R n rs room zero h = refl
cleared ws R n rs room (suc i) h =
    step_by ws R i rs (up_to (summary_of n []) i ++ drop i rs) i clearing (cleared ws R n rs room i (omega arith)) (place-first ws R i h) (change-first ws R i h)
    ∙ set_next (summary_of n []) i rs absent (omega arith) (flip (absent-zero n [] i refl))

-- ── the others add a node each ──
module _ (ws : List ℕ) (R n : ℕ) (rs : List Summary) (good : bad_node R n ws ≡ none) (room : R ≤ length rs) where
  -- the records of all symbols, node k being added
  grown : (k : ℕ) → k < room_of ws → (r : ℕ)
      → summary_of n (nodes_at ws 0 (suc k)) r
      ≡ cond (is_of r (node_at ws k)) (changed_by (summary_of n (nodes_at ws 0 k) r) (adding k (bytes_added (nodes_at ws 0 k) (node_at ws k))))
      (summary_of n (nodes_at ws 0 k) r)
  grown k h r =
      ap (λ (l : List Node). summary_of n l r) (nodes-suc ws k) ∙ one-record R n (nodes_at ws 0 k) (node_at ws k) (good-up-to R n ws k good h) r
      ∙ ap
      (λ (j : ℕ). cond (is_of r (node_at ws k)) (changed_by (summary_of n (nodes_at ws 0 k) r) (adding j (bytes_added (nodes_at ws 0 k) (node_at ws k))))
      (summary_of n (nodes_at ws 0 k) r))
      (nodes-long ws 0 k)

  added : (k : ℕ) → k ≤ room_of ws → stepped ws R (R + k) rs ≡ summaries n R (nodes_at ws 0 k) rs
  unfolding summaries nodes_at
  added zero h = ap (λ (i : ℕ). stepped ws R i rs) (omega arith) ∙ cleared ws R n rs room R (omega arith)
  added (suc k) h =
      ap (λ (i : ℕ). stepped ws R i rs) (omega arith)
      ∙ step_by ws R (R + k) rs (summaries n R (nodes_at ws 0 k) rs) s u (added k (omega arith)) (place-node ws R k) (change-node ws R k)
      ∙ set-one (summary_of n (nodes_at ws 0 k)) (summary_of n (nodes_at ws 0 (suc k))) R s (drop R rs) _ s-known own other
    where
      s : ℕ
      s = (node_at ws k).symbol

      u : Change
      u = adding k (bytes_added (nodes_at ws 0 k) (node_at ws k))

      s-known : s < R
      s-known = (known R n ws k good h).0

      own : changed_by (get_or (summaries n R (nodes_at ws 0 k) rs) s absent) u ≡ summary_of n (nodes_at ws 0 (suc k)) s
      own = ap (λ (o : Summary). changed_by o u) (summaries-at n R (nodes_at ws 0 k) rs s s-known) ∙ flip (grown k h s ∙ rw (eq-eqb s s refl))

      other : (i : ℕ) → (i ≡ s → ⊥) → summary_of n (nodes_at ws 0 k) i ≡ summary_of n (nodes_at ws 0 (suc k)) i
      other i d = flip (grown k h i ∙ rw (ne_eqb s i (λ e. d (flip e))))

pub stepped-all : (ws : List ℕ) (R n : ℕ) (rs : List Summary) → bad_node R n ws ≡ none → R ≤ length rs
    → stepped ws R (R + room_of ws) rs ≡ summaries n R (nodes_at ws 0 (room_of ws)) rs
stepped-all ws R n rs good room = added ws R n rs good room (room_of ws) (omega arith)

-- ── each step finds room ──
bytes_most : (xs : List Node) (x : Node) → bytes_added xs x ≤ x.end
bytes_most xs x = by (leb (reach_of x.symbol xs) x.start)
  where
    by : (b : Bool) → cond b (x.end - x.start) 0 ≤ x.end
    by true = omega arith
    by false = omega arith

-- what a step asks
Asks : List ℕ → ℕ → ℕ → List Summary → Type 0
Asks ws R i rs = (place_at ws R i < length (stepped ws R i rs)) × Fits (get_or (stepped ws R i rs) (place_at ws R i) absent) (change_at ws R i)

clearing-fits : (ws : List ℕ) (R i : ℕ) (rs : List Summary) → R ≤ length rs → i < R → Asks ws R i rs
unfolding Asks
clearing-fits ws R i rs room h = (
  rw (place-first ws R i h, stepped-long ws R i rs) (omega arith),
  rw (change-first ws R i h) tt,
)

room_most : (ws : List ℕ) → length ws < 18446744073709551616 → room_of ws < 4611686018427387904
unfolding room_of node_words
room_most ws h = omega arith

node-fits : (ws : List ℕ) (R k : ℕ) (rs : List Summary) → Sweepable ws R (suc (R + k)) → R ≤ length rs → Asks ws R (R + k) rs
unfolding Asks summary_of
node-fits ws R k rs able room = (
  rw (place-node ws R k, stepped-long ws R (R + k) rs) (omega (arith, x-known.0)),
  rw (added ws R able.n rs able.good room k (omega arith), place-node ws R k, change-node ws R k, summaries-at able.n R xs rs x.symbol x-known.0) (
    omega (arith, count_most x.symbol xs, nodes-long ws 0 k, room_most ws able.long),
    omega (arith, covered-most able.n x.symbol xs, able.short),
    omega (arith, bytes_most xs x, x-known.2, able.short),
  ),
)
  where
    xs : List Node
    xs = nodes_at ws 0 k

    x : Node
    x = node_at ws k

    inside : k < room_of ws
    inside = omega (arith, able.within)

    x-known : (x.symbol < R) × (x.start ≤ x.end) × (x.end ≤ able.n)
    x-known = known R able.n ws k able.good inside

pub step_fits : (ws : List ℕ) (R steps i : ℕ) (rs : List Summary) → Sweepable ws R steps → R ≤ length rs → i < steps
    → (place_at ws R i < length (stepped ws R i rs)) × Fits (get_or (stepped ws R i rs) (place_at ws R i) absent) (change_at ws R i)
unfolding Asks
step_fits ws R steps i rs able room h = ⊎_elim (λ (a : i < R). clearing-fits ws R i rs room a) (λ (a : R ≤ i). later (i - R) (omega arith)) (lt-or-ge i R)
  where
    later : (k : ℕ) → R + k ≡ i → Asks ws R i rs
    later k e = subst (λ (j : ℕ). Asks ws R j rs) e (node-fits ws R k rs (sooner ws R steps (R + k) able (omega arith)) room)
