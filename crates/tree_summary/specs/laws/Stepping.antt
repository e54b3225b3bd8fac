-- One step of a pass: what the code works out from what is known behind the step before it is what is known behind this one. Assumes nothing.
use Prim.Native.Nat.{ℕ, zero, suc, ◌-◌, ◌≤◌, ◌<◌, max}
use Rattle.std.specs.Prelude.{◌≡◌, Bool, true, false, cond, List, [], ◌∷◌, ◌++◌, eqb, leb, length, get_or, set, replicate}
use Rattle.std.proofs.Math.Path.{refl, ap, sym as flip}
use Rattle.std.proofs.Common.{◌∙◌, arith, length-set, get_or-set_same, get_or-set_other, lt-ltb, le-ltb, eqb-true}
use Rattle.std.proofs.lemmas.List.{set-get_or}
use Rattle.std.proofs.lemmas.Bool.{eqb-false}
use Rattle.grammar_table.specs.Table.{up_to}
use Rattle.grammar_table.specs.laws.Lists.{up-length, up_at, is_up}
use Rattle.match_meaning.specs.Meaning.{Node}
use Rattle.match_list.specs.Nodes.{node_at, nodes_at, room_of}
use Rattle.tree_list.specs.declared.Node.{Node as Handed}
use Rattle.tree_list.specs.declared.NodeStep.{NodeStep}
use Rattle.tree_list.specs.Handing.{in_fields, node_step_at}
use Rattle.tree_summary.specs.declared.Change.{Change}
use Rattle.tree_summary.specs.declared.Sweep.{Sweep}
use Rattle.tree_summary.specs.Summary.{is_of}
use Rattle.tree_summary.specs.Adding.{reach_of, bytes_added, adding, clearing}
use Rattle.tree_summary.specs.steps.Sweeping.{place_at, change_at, reaches, sweep_at, Sweepable}
use Rattle.tree_summary.specs.laws.Known.{nodes-suc, known}

-- ── the farthest end of one symbol ──
module _ (reach : List ℕ) (r q far : ℕ) (is : far ≡ get_or reach r 0) where
  pub stays-reached : q ≤ far → reach ≡ set reach r (max q (get_or reach r 0))
  stays-reached h = flip (ap (set reach r) (omega (arith, is, h)) ∙ set-get_or reach r 0)

  pub reaches-farther : far < q → (a : List ℕ) → a ≡ set reach r q → a ≡ set reach r (max q (get_or reach r 0))
  reaches-farther h a e = e ∙ ap (set reach r) (omega (arith, is, h))

-- ── the farthest ends, one node more ──
swapped : (a b : Bool) (p q m : ℕ) → cond a (max p (cond b (max q m) m)) (cond b (max q m) m) ≡ cond b (max q (cond a (max p m) m)) (cond a (max p m) m)
swapped true true p q m = omega arith
swapped true false p q m = refl
swapped false true p q m = refl
swapped false false p q m = refl

reach-more : (r : ℕ) (xs : List Node) (x : Node) → reach_of r (xs ++ (x ∷ [])) ≡ cond (is_of r x) (max x.end (reach_of r xs)) (reach_of r xs)
unfolding reach_of
reach-more r [] x = refl
reach-more r (y ∷ xs) x =
    ap (λ (m : ℕ). cond (is_of r y) (max y.end m) m) (reach-more r xs x) ∙ swapped (is_of r y) (is_of r x) y.end x.end (reach_of r xs)

module _ (ws : List ℕ) where
  reaches-long : (k : ℕ) → length (reaches ws k) ≡ 64
  unfolding reaches
  reaches-long k = up-length (λ r. reach_of r (nodes_at ws 0 k)) 64

  reaches-at : (k r : ℕ) → r < 64 → get_or (reaches ws k) r 0 ≡ reach_of r (nodes_at ws 0 k)
  unfolding reaches
  reaches-at k r h = up_at (λ r. reach_of r (nodes_at ws 0 k)) 0 64 r h

  reaches-none : replicate 64 0 ≡ reaches ws 0
  unfolding reaches reach_of nodes_at up_to
  reaches-none = refl

  reach-suc : (k r : ℕ) → reach_of r (nodes_at ws 0 (suc k))
      ≡ cond (is_of r (node_at ws k)) (max (node_at ws k).end (reach_of r (nodes_at ws 0 k))) (reach_of r (nodes_at ws 0 k))
  reach-suc k r = ap (reach_of r) (nodes-suc ws k) ∙ reach-more r (nodes_at ws 0 k) (node_at ws k)

  -- a place of the farthest ends: the symbol's own, or another
  reached-at : (k : ℕ) (b : Bool) (r : ℕ) → r < 64 → eqb (node_at ws k).symbol r ≡ b
      → get_or (set (reaches ws k) (node_at ws k).symbol (max (node_at ws k).end (get_or (reaches ws k) (node_at ws k).symbol 0))) r 0
      ≡ cond b (max (node_at ws k).end (reach_of r (nodes_at ws 0 k))) (reach_of r (nodes_at ws 0 k))
  reached-at k true r h e =
      rw (eqb-true (node_at ws k).symbol r e, get_or-set_same (reaches ws k) r _ 0 (omega (arith, reaches-long k, h)), reaches-at k r h)
  reached-at k false r h e =
      get_or-set_other (reaches ws k) (node_at ws k).symbol r _ 0 (λ p. eqb-false (node_at ws k).symbol r e (flip p)) ∙ reaches-at k r h

  reaches-suc : (k : ℕ)
      → set (reaches ws k) (node_at ws k).symbol (max (node_at ws k).end (get_or (reaches ws k) (node_at ws k).symbol 0)) ≡ reaches ws (suc k)
  unfolding reaches
  reaches-suc k =
      is_up (λ r. reach_of r (nodes_at ws 0 (suc k))) 0 64 _ (length-set (reaches ws k) _ _ ∙ reaches-long k)
      (λ r h. reached-at k (is_of r (node_at ws k)) r h refl ∙ flip (reach-suc k r))

-- ── a step ──
same-sweep : {p q : ℕ} {u v : Change} {a b : List ℕ} → p ≡ q → u ≡ v → a ≡ b
    → ◌≡◌ {A = Sweep} (record { place = p; change = u; reach = a }) (record { place = q; change = v; reach = b })
same-sweep d e f = rw (d, e, f)

module _ (ws : List ℕ) (R : ℕ) where
  -- nothing is reached before the first node
  reach-before : (i : ℕ) → (sweep_at ws R i).reach ≡ reaches ws (i - R)
  unfolding sweep_at
  reach-before zero = reaches-none ws ∙ ap (reaches ws) (omega arith)
  reach-before (suc i) = refl

  module _ (i : ℕ) (s : Sweep) (is : s ≡ sweep_at ws R i) where
    reach-is : s.reach ≡ reaches ws (i - R)
    reach-is = ap (λ (x : Sweep). x.reach) is ∙ reach-before i

    -- a record is made absent
    pub clears : i < R → record { place = i; change = clearing; reach = s.reach } ≡ sweep_at ws R (suc i)
    unfolding sweep_at place_at change_at
    clears h = rw (lt-ltb i R h) (same-sweep refl refl (reach-is ∙ ap (reaches ws) (omega (arith, h))))

    -- a node is added
    module _ (can : Sweepable ws R (suc i)) (past : R ≤ i) (x : NodeStep) (handed : x ≡ node_step_at ws (i - R)) where
      whole : i - R < room_of ws
      whole = omega (arith, can.within, past)

      sound : ((node_at ws (i - R)).symbol < R) × ((node_at ws (i - R)).start ≤ (node_at ws (i - R)).end) × ((node_at ws (i - R)).end ≤ can.n)
      sound = known R can.n ws (i - R) can.good whole

      node-is : x.node ≡ in_fields (node_at ws (i - R))
      unfolding node_step_at
      node-is = ap (λ (y : NodeStep). y.node) handed ∙ rw (lt-ltb (i - R) (room_of ws) whole)

      pub added-forward : x.node.start ≤ x.node.end
      added-forward = rw node-is sound.1

      pub added-fits : x.node.end < 65536
      added-fits = rw node-is (omega (arith, sound.2, can.short))

      few : (node_at ws (i - R)).symbol < 64
      few = omega (arith, sound.0, can.few)

      pub added-few : x.node.symbol < 64
      added-few = rw node-is few

      bytes-are : (far b : ℕ) → far ≡ get_or s.reach x.node.symbol 0 → b ≡ cond (leb far x.node.start) (x.node.end - x.node.start) 0
          → b ≡ bytes_added (nodes_at ws 0 (i - R)) (node_at ws (i - R))
      bytes-are far b e f = f ∙ rw (e, reach-is, node-is, reaches-at ws (i - R) (node_at ws (i - R)).symbol few)

      reach-behind : (a : List ℕ) → a ≡ set s.reach x.node.symbol (max x.node.end (get_or s.reach x.node.symbol 0)) → a ≡ reaches ws (suc i - R)
      reach-behind a e = e ∙ rw (reach-is, node-is) (reaches-suc ws (i - R) ∙ ap (reaches ws) (omega (arith, past)))

      pub adds : (far b : ℕ) (a : List ℕ) → far ≡ get_or s.reach x.node.symbol 0 → b ≡ cond (leb far x.node.start) (x.node.end - x.node.start) 0
          → a ≡ set s.reach x.node.symbol (max x.node.end (get_or s.reach x.node.symbol 0))
          → record { place = x.node.symbol; change = adding (i - R) b; reach = a } ≡ sweep_at ws R (suc i)
      unfolding sweep_at place_at change_at
      adds far b a e f g = rw (le-ltb i R past) (same-sweep (ap (λ (y : Handed). y.symbol) node-is) (ap (adding (i - R)) (bytes-are far b e f)) (reach-behind a g))
