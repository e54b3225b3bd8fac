-- A node's text from its parts, and the nodes of the words one after the other. Assumes nothing.
use Prim.Native.Nat.{ℕ, suc, ◌+◌, ◌-◌, ◌≤◌, ◌<◌}
use Rattle.std.specs.Prelude.{◌≡◌, cond, List, [], ◌∷◌, ◌++◌, eqb, take, drop}
use Rattle.std.proofs.Math.Path.{sym, ap}
use Rattle.std.proofs.Common.{◌∙◌, append_assoc, eq-eqb, ne_eqb}
use native.Mathlib.Omega.{arith}
use Rattle.read_tokens.specs.Token.{Symbol}
use Rattle.match_meaning.specs.Meaning.{nd}
use Rattle.match_list.specs.Nodes.{room_of, node_word, node_at, nodes_at}
use Rattle.write_rules.specs.Writing.{symbol_text}
use Rattle.tree_json.specs.Json.{chars_json, number_json, before_name, quote, before_start, before_end, before_text, before_children, comma, head_json, closings, behind_node, json_text}
use Rattle.tree_write.specs.steps.Nodes.{name_member, span_members, text_member, behind_at}

-- ── a head ──
grouped : (a b c d e f g h i j : List ℕ) → (a ++ (b ++ c)) ++ ((d ++ (e ++ (f ++ g))) ++ (h ++ (i ++ j))) ≡ a ++ (b ++ (c ++ (d ++ (e ++ (f ++ (g ++ (h ++ (i ++ j))))))))
grouped a b c d e f g h i j = simp append_assoc

module _ (f : ℕ → Symbol) (s ws : List ℕ) (k r p q : ℕ) where
  pub head-said : r ≡ node_word ws k 0 → p ≡ node_word ws k 1 → q ≡ node_word ws k 2
      → name_member (f r) ++ (span_members p q ++ text_member (take (q - p) (drop p s))) ≡ head_json f s (node_at ws k)
  unfolding head_json node_at
  head-said a b c =
      grouped before_name (symbol_text (f r)) quote before_start (number_json p) before_end (number_json q) before_text (chars_json (take (q - p) (drop p s))) before_children
      ∙ ap (λ (x : ℕ). head_json f s (nd x p q (node_word ws k 3))) a
      ∙ ap (λ (x : ℕ). head_json f s (nd (node_word ws k 0) x q (node_word ws k 3))) b
      ∙ ap (λ (x : ℕ). head_json f s (nd (node_word ws k 0) (node_word ws k 1) x (node_word ws k 3))) c

-- ── closed nodes: what is left at i ──
module _ (c i : ℕ) where
  pub closings-more : i < c → closings (c - i) ≡ (93 ∷ 125 ∷ []) ++ closings (c - (i + 1))
  unfolding closings
  closings-more h = let e : c - i ≡ suc (c - (i + 1)) = omega arith in ap closings e

  pub closings-end : c ≤ i → closings (c - i) ≡ []
  unfolding closings
  closings-end h = let e : c - i ≡ 0 = omega arith in ap closings e

pub closings-start : (c : ℕ) → closings c ≡ closings (c - 0)
closings-start c = let e : c ≡ c - 0 = omega arith in ap closings e

-- ── behind a node ──
behind_by : ℕ → ℕ → List ℕ
behind_by d e = cond (eqb e (suc d)) [] (closings (suc d - e) ++ comma)

module _ (ws : List ℕ) (k d : ℕ) (here : d ≡ node_word ws k 3) where
  pub behind-last : k + 1 ≡ room_of ws → closings (d + 1) ≡ behind_at ws k
  unfolding behind_node node_at nodes_at
  behind-last h =
      let a : d + 1 ≡ suc (node_word ws k 3) = omega (arith, here) in
      let b : 0 ≡ room_of ws - suc k = omega arith in
      ap closings a ∙ ap (λ (c : ℕ). behind_node (node_at ws k).depth (nodes_at ws (suc k) c)) b

  module _ (e : ℕ) (there : e ≡ node_word ws (k + 1) 3) (inside : k < room_of ws) (more : k + 1 ≡ room_of ws → ⊥) where
    next : behind_by d e ≡ behind_at ws k
    unfolding behind_by behind_node node_at nodes_at
    next =
        let a : k + 1 ≡ suc k = omega arith in
        let b : suc (room_of ws - suc (suc k)) ≡ room_of ws - suc k = omega arith in
        ap (λ (x : ℕ). behind_by x e) here ∙ ap (behind_by (node_word ws k 3)) (there ∙ ap (λ (x : ℕ). node_word ws x 3) a)
        ∙ ap (λ (c : ℕ). behind_node (node_at ws k).depth (nodes_at ws (suc k) c)) b

    pub behind-child : e ≡ d + 1 → [] ≡ behind_at ws k
    unfolding behind_by
    behind-child h = sym (rw (eq-eqb e (suc d) (omega arith))) ∙ next

    pub behind-else : (e ≡ d + 1 → ⊥) → closings (d + 1 - e) ++ comma ≡ behind_at ws k
    unfolding behind_by
    behind-else g =
        let a : d + 1 - e ≡ suc d - e = omega arith in
        ap (λ (x : ℕ). closings x ++ comma) a ∙ sym (rw (ne_eqb e (suc d) (λ y. g (omega (arith, y))))) ∙ next

-- ── all nodes: what is left at node k ──
module _ (f : ℕ → Symbol) (s ws : List ℕ) where
  abbrev pub rest_of : ℕ → List ℕ
  rest_of k = json_text f s (nodes_at ws k (room_of ws - k))

  pub rest-start : json_text f s (nodes_at ws 0 (room_of ws)) ≡ rest_of 0
  rest-start = let e : room_of ws ≡ room_of ws - 0 = omega arith in ap (λ (c : ℕ). json_text f s (nodes_at ws 0 c)) e

  pub rest_more : (k : ℕ) → k < room_of ws → rest_of k ≡ (head_json f s (node_at ws k) ++ behind_at ws k) ++ rest_of (k + 1)
  unfolding json_text nodes_at
  rest_more k h =
      let a : room_of ws - k ≡ suc (room_of ws - suc k) = omega arith in
      let b : suc k ≡ k + 1 = omega arith in
      ap (λ (c : ℕ). json_text f s (nodes_at ws k c)) a
      ∙ ap (λ (x : ℕ). head_json f s (node_at ws k) ++ (behind_at ws k ++ rest_of x)) b
      ∙ sym (append_assoc (head_json f s (node_at ws k)) (behind_at ws k) (rest_of (k + 1)))

  pub rest_end : (k : ℕ) → room_of ws ≤ k → rest_of k ≡ []
  unfolding json_text nodes_at
  rest_end k h = let e : room_of ws - k ≡ 0 = omega arith in ap (λ (c : ℕ). json_text f s (nodes_at ws k c)) e
