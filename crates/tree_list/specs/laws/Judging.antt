-- Judging words node by node: the begin, a turn, and each answer. Assumes nothing.
use Prim.Native.Nat.{ℕ, zero, suc, ◌+◌, ◌-◌, ◌*◌, ◌≤◌, ◌<◌}
use Rattle.std.specs.Prelude.{◌≡◌, refl, Bool, true, false, cond, ◌&&◌, List, ◌∷◌, leb, length, get_or}
use Rattle.std.proofs.Math.Path.{ap}
use Rattle.std.proofs.Common.{subst, ◌∙◌, sym as flip, arith, le-leb, eq-eqb, ne_eqb}
use Rattle.std.proofs.Math.Option.{Option, none, some}
use Rattle.read_tokens.specs.Bounds.{node_words}
use Rattle.match_meaning.specs.Meaning.{nd}
use Rattle.match_list.specs.Nodes.{room_of, node_at, nodes_at}
use Rattle.match_list.proofs.laws.Words.{room_fits}
use Rattle.tree_list.specs.declared.Node.{Node as Handed}
use Rattle.tree_list.specs.Preorder.{gap_at, admits, gaps_behind, bad_from, whole, or_else, cut_off, bad_node}
use Rattle.tree_list.specs.Handing.{in_fields}
use Rattle.tree_list.specs.steps.Gaps.{Admitted}
use Rattle.tree_list.specs.steps.Judging.{Judging}
use Rattle.tree_list.specs.laws.Gaps.{gaps_behind-length}
use Rattle.tree_list.specs.laws.NodeWords.{one_more, no_more}
use Rattle.tree_list.specs.laws.Bad.{goes_through, stops_at}

-- ── the begin: the root lies in the input ──
module _ (n : ℕ) (gaps : List ℕ) where
  whole_from : get_or gaps 0 0 ≡ 0 → (d : ℕ) → d < 1 → get_or gaps (2 * d) 0 ≡ (gap_at (whole n) d).from
  whole_from e zero h = e
  whole_from e (suc d) h = absurd (omega (arith, h))

  whole_to : get_or gaps 1 0 ≡ n → (d : ℕ) → d < 1 → get_or gaps (2 * d + 1) 0 ≡ (gap_at (whole n) d).to
  whole_to e zero h = e
  whole_to e (suc d) h = absurd (omega (arith, h))

module _ (R n : ℕ) (ws : List ℕ) where
  pub judging-begins : (gaps : List ℕ) → get_or gaps 0 0 ≡ 0 → get_or gaps 1 0 ≡ n → Judging R n ws 0 1 gaps
  judging-begins gaps a b =
      record {
        gs = whole n;
        many = refl;
        held = record { from = whole_from n gaps a; to = whole_to n gaps b };
        within = omega arith;
        same = ap (λ (c : ℕ). bad_from R (whole n) 0 (nodes_at ws 0 c)) (omega arith);
      }

  -- ── a turn ──
  module _ (k depths : ℕ) (gaps new : List ℕ) (j : Judging R n ws k depths gaps) (more : k < room_of ws) (x : Handed) (is : x ≡ in_fields (node_at ws k)) (b : Bool)
      (a : Admitted R k (nd x.symbol x.start x.end x.depth) depths gaps new b) where
    here : Admitted R k (node_at ws k) depths gaps new b
    here = subst (λ (y : Handed). Admitted R k (nd y.symbol y.start y.end y.depth) depths gaps new b) is a

    unfold-one : bad_from R (whole n) 0 (nodes_at ws 0 (room_of ws)) ≡ bad_from R j.gs k (node_at ws k ∷ nodes_at ws (suc k) (room_of ws - suc k))
    unfold-one = j.same ∙ ap (bad_from R j.gs k) (one_more ws k (room_of ws) more)

    pub judging-goes-on : b ≡ true → Judging R n ws (k + 1) (x.depth + 2) new
    judging-goes-on e =
        let t : admits R j.gs k (node_at ws k) ≡ true = flip (here.answer j.gs j.many j.held) ∙ e in
        subst (λ (i : ℕ). Judging R n ws i (x.depth + 2) new) (omega arith)
        (record {
          gs = gaps_behind j.gs (node_at ws k);
          many = gaps_behind-length R j.gs k (node_at ws k) t ∙ ap (λ (y : Handed). y.depth + 2) (flip is);
          held = here.opens j.gs j.many j.held e;
          within = omega (arith, more);
          same = unfold-one ∙ goes_through R j.gs k (node_at ws k) (nodes_at ws (suc k) (room_of ws - suc k)) t;
        })

    pub judging-stops : b ≡ false → bad_node R n ws ≡ some k
    unfolding bad_node
    judging-stops e =
        ap (λ (o : Option ℕ). or_else o (cut_off ws))
        (unfold-one ∙ stops_at R j.gs k (node_at ws k) (nodes_at ws (suc k) (room_of ws - suc k)) (flip (here.answer j.gs j.many j.held) ∙ e))

  -- ── behind the last node ──
  module _ (k depths : ℕ) (gaps : List ℕ) (j : Judging R n ws k depths gaps) (over : room_of ws ≤ k) where
    only-cut-off : bad_node R n ws ≡ cut_off ws
    unfolding bad_node bad_from
    only-cut-off = ap (λ (o : Option ℕ). or_else o (cut_off ws)) (j.same ∙ ap (bad_from R j.gs k) (no_more ws k (room_of ws) over))

    pub judging-empty : room_of ws ≡ 0 → bad_node R n ws ≡ some (room_of ws)
    judging-empty e = only-cut-off ∙ rw (e)

    pub judging-cut : node_words * room_of ws < length ws → bad_node R n ws ≡ some (room_of ws)
    judging-cut h = only-cut-off ∙ rw (ne_eqb (node_words * room_of ws) (length ws) (λ e. omega (arith, e, h))) (either (leb 1 (room_of ws)))
      where
        either : (b : Bool) → cond (b && false) none (some (room_of ws)) ≡ some (room_of ws)
        either true = refl
        either false = refl

    pub judging-good : 1 ≤ room_of ws → length ws ≤ node_words * room_of ws → bad_node R n ws ≡ none
    judging-good h l =
        only-cut-off ∙ rw (le-leb 1 (room_of ws) h, eq-eqb (node_words * room_of ws) (length ws) (omega (arith, l, room_fits ws)))
