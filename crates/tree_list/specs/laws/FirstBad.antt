-- The place of refusal 15 is the first node with which no tree's list begins, and there is one such node at most. Assumes nothing.
use Rattle.std.specs.Prelude.{ℕ, zero, suc, ◌*◌, ◌≤◌, ◌<◌, ◌≡◌, refl, ◌↔◌, ◌⊎◌, List, length, get_or, take}
use Rattle.std.proofs.Common.{ap, subst, ◌∙◌, sym as flip, inl, inr, ⊎_elim, arith, take_all, take-take, get_or-take}
use Rattle.std.proofs.Math.Option.{Option, none, some}
use Rattle.std.proofs.Math.Seq.{length-take-le}
use Rattle.base_facts.specs.laws.Options.{some-none}
use Rattle.base_facts.specs.laws.Numbers.{lt-or-ge}
use Rattle.read_tokens.specs.Bounds.{node_words}
use Rattle.match_list.specs.Nodes.{room_of, nodes_at}
use Rattle.match_list.proofs.laws.Words.{room_fits}
use Rattle.tree_list.specs.Tree.{IsTree, FirstBad}
use Rattle.tree_list.specs.Preorder.{bad_from, whole, bad_node}
use Rattle.tree_list.specs.laws.NodeWords.{nodes-long, nodes-front, nodes-agree}
use Rattle.tree_list.specs.laws.Bad.{front-good, stops-at-first, good-parts, parts-good, bad-cases}
use Rattle.tree_list.specs.laws.ListTree.{list-tree}

-- ── nodes and words are counted ──
room_of_lem : (ws : List ℕ) (k : ℕ) → length ws ≡ node_words * k → room_of ws ≡ k
unfolding room_of node_words
room_of_lem ws k e = omega (arith, e)

-- node k lies whole in the words
whole-within : (ws : List ℕ) (k : ℕ) → node_words * suc k ≤ length ws → suc k ≤ room_of ws
unfolding room_of node_words
whole-within ws k h = omega (arith, h)

within-whole : (ws : List ℕ) (k : ℕ) → k < room_of ws → node_words * suc k ≤ length ws
unfolding room_of node_words
within-whole ws k h = omega (arith, h)

part_of : (ws : List ℕ) (k : ℕ) → k ≡ room_of ws → length ws < node_words * suc k
unfolding room_of node_words
part_of ws k e = omega (arith, e)

fewer : (j k : ℕ) → j < k → node_words * suc j ≤ node_words * k
unfolding node_words
fewer j k h = omega (arith, h)

-- ── the place ──
module _ (R n : ℕ) (ws : List ℕ) where
  -- so many whole nodes of the words
  front_long : (k : ℕ) → k ≤ room_of ws → length (take (node_words * k) ws) ≡ node_words * k
  unfolding node_words
  front_long k h = length-take-le (node_words * k) ws (omega (arith, room_fits ws, h))

  front-room : (k : ℕ) → k ≤ room_of ws → room_of (take (node_words * k) ws) ≡ k
  front-room k h = room_of_lem (take (node_words * k) ws) k (front_long k h)

  front-nodes : (k : ℕ) → k ≤ room_of ws → nodes_at (take (node_words * k) ws) 0 k ≡ take k (nodes_at ws 0 (room_of ws))
  front-nodes k h =
      nodes-agree (take (node_words * k) ws) ws 0 k (λ i l. get_or-take (node_words * k) ws i 0 (subst (λ (j : ℕ). i < node_words * j) (omega arith) l))
      ∙ flip (nodes-front ws 0 (room_of ws) k h)

  -- they are a tree's list if the nodes are good
  front-tree : (k : ℕ) → k ≤ room_of ws → 1 ≤ k → bad_from R (whole n) 0 (take k (nodes_at ws 0 (room_of ws))) ≡ none → IsTree R n (take (node_words * k) ws)
  front-tree k h l e =
      (list-tree R n (take (node_words * k) ws)).0
      (parts-good R n (take (node_words * k) ws)
      (record {
        list =
            ap (λ (c : ℕ). bad_from R (whole n) 0 (nodes_at (take (node_words * k) ws) 0 c)) (front-room k h) ∙ ap (bad_from R (whole n) 0) (front-nodes k h) ∙ e;
        some-node = omega (arith, front-room k h, l);
        exact = ap (λ (c : ℕ). node_words * c) (front-room k h) ∙ flip (front_long k h);
      }))

  before-by : (k : ℕ) → k ≤ room_of ws → bad_from R (whole n) 0 (take k (nodes_at ws 0 (room_of ws))) ≡ none → (k ≡ 0) ⊎ IsTree R n (take (node_words * k) ws)
  before-by zero h e = inl refl
  before-by (suc k) h e = inr (front-tree (suc k) h (omega arith) e)

  -- words that begin like these up to node k
  module _ (k : ℕ) (vs : List ℕ) (same : take (node_words * suc k) vs ≡ take (node_words * suc k) ws) where
    as_long : node_words * suc k ≤ length ws → node_words * suc k ≤ length vs
    as_long h =
        ⊎_elim
        (λ l. absurd (omega (arith, l, ap length (take_all (node_words * suc k) vs (omega (arith, l))), ap length same, length-take-le (node_words * suc k) ws h)))
        (λ g. g) (lt-or-ge (length vs) (node_words * suc k))

    same_word : (i : ℕ) → i < node_words * suc k → get_or vs i 0 ≡ get_or ws i 0
    same_word i h =
        flip (get_or-take (node_words * suc k) vs i 0 h) ∙ ap (λ (l : List ℕ). get_or l i 0) same ∙ get_or-take (node_words * suc k) ws i 0 h

    -- begin with the same node k, if it lies whole in these
    same_nodes : node_words * suc k ≤ length ws → take (suc k) (nodes_at vs 0 (room_of vs)) ≡ take (suc k) (nodes_at ws 0 (room_of ws))
    same_nodes h =
        nodes-front vs 0 (room_of vs) (suc k) (whole-within vs k (as_long h))
        ∙ nodes-agree vs ws 0 (suc k) (λ i l. same_word i (subst (λ (j : ℕ). i < node_words * j) (omega arith) l))
        ∙ flip (nodes-front ws 0 (room_of ws) (suc k) (whole-within ws k h))

    -- and are the same if it does not
    same-words : length ws < node_words * suc k → vs ≡ ws
    same-words h =
        ⊎_elim (λ l. flip (take_all (node_words * suc k) vs (omega (arith, l))) ∙ same ∙ take_all (node_words * suc k) ws (omega (arith, h)))
        (λ g.
        absurd (omega (arith, h, length-take-le (node_words * suc k) vs g, ap length same, ap length (take_all (node_words * suc k) ws (omega (arith, h))))))
        (lt-or-ge (length vs) (node_words * suc k))

  first-in-list : (k : ℕ) → bad_from R (whole n) 0 (nodes_at ws 0 (room_of ws)) ≡ some k → FirstBad R n ws k
  first-in-list k e =
      let s : (k < length (nodes_at ws 0 (room_of ws))) × (bad_from R (whole n) 0 (take k (nodes_at ws 0 (room_of ws))) ≡ none) ×
      (bad_from R (whole n) 0 (take (suc k) (nodes_at ws 0 (room_of ws))) ≡ some k) =
      stops-at-first R (whole n) (nodes_at ws 0 (room_of ws)) k e
      in
      record {
        before = before-by k (omega (arith, s.0, nodes-long ws 0 (room_of ws))) s.1;
        with = λ vs t same.
            some-none k
            (flip s.2 ∙ ap (bad_from R (whole n) 0) (flip (same_nodes k vs same (within-whole ws k (omega (arith, s.0, nodes-long ws 0 (room_of ws))))))
            ∙ front-good R (whole n) 0 (nodes_at vs 0 (room_of vs)) (suc k) (good-parts R n vs ((list-tree R n vs).1 t)).list);
      }

  first-cut-off : (k : ℕ) → bad_node R n ws ≡ some k → bad_from R (whole n) 0 (nodes_at ws 0 (room_of ws)) ≡ none → k ≡ room_of ws → FirstBad R n ws k
  first-cut-off k b e h =
      record {
        before = before-by k (omega (arith, h)) (front-good R (whole n) 0 (nodes_at ws 0 (room_of ws)) k e);
        with = λ vs t same. some-none k (flip b ∙ ap (bad_node R n) (flip (same-words k vs same (part_of ws k h))) ∙ (list-tree R n vs).1 t);
      }

  pub bad-first : (k : ℕ) → bad_node R n ws ≡ some k → FirstBad R n ws k
  bad-first k e = elim (bad-cases R n ws k e) [ inl h ↦ first-in-list k h | inr h ↦ first-cut-off k e h.0 h.1 ]

  -- two such nodes: the list before the later one begins with the earlier
  earlier : (j k : ℕ) → FirstBad R n ws j → FirstBad R n ws k → j < k → ⊥
  earlier j k a b h = elim b.before [
    | inl e ↦ omega (arith, e, h)
    | inr t ↦ a.with (take (node_words * k) ws) t (take-take (node_words * suc j) (node_words * k) ws (fewer j k h))
  ]

  pub one-first : (j k : ℕ) → FirstBad R n ws j → FirstBad R n ws k → j ≡ k
  one-first j k a b =
      ⊎_elim (λ l. absurd (earlier j k a b l)) (λ g. ⊎_elim (λ l. absurd (earlier k j b a l)) (λ i. omega (arith, g, i)) (lt-or-ge k j)) (lt-or-ge j k)

  found : (o : Option ℕ) (k : ℕ) → bad_node R n ws ≡ o → FirstBad R n ws k → o ≡ some k
  found none k e f = absurd (f.with ws ((list-tree R n ws).0 e) refl)
  found (some j) k e f = ap some (one-first j k (bad-first j e) f)

  pub first-bad : (k : ℕ) → (bad_node R n ws ≡ some k) ↔ FirstBad R n ws k
  first-bad k = (λ e. bad-first k e, λ f. found (bad_node R n ws) k refl f)
