-- Handing out until the end gives the nodes in order, each once. Assumes nothing.
use Prim.Native.Nat.{ℕ, zero, suc, ◌+◌, ◌-◌, ◌≤◌, ◌<◌}
use Rattle.std.specs.Prelude.{◌≡◌, true, false, List, [], ◌∷◌, map}
use Rattle.std.proofs.Math.Path.{refl}
use Rattle.std.proofs.Common.{ap, ◌∙◌, sym as flip, inl, inr, add-one, arith, lt-ltb, le-ltb}
use Rattle.base_facts.specs.laws.Numbers.{lt-or-ge}
use Rattle.match_meaning.specs.Meaning.{nd}
use Rattle.match_list.specs.Nodes.{room_of, node_word, node_at, nodes_at}
use Rattle.tree_list.specs.declared.Node.{Node as Handed}
use Rattle.tree_list.specs.Handing.{in_fields, no_node, node_step_at, handed_out}
use Rattle.tree_list.specs.laws.NodeWords.{one_more, no_more}

-- ── of the code ──
same-fields : {a b c d a' b' c' d' : ℕ} → a ≡ a' → b ≡ b' → c ≡ c' → d ≡ d' → in_fields (nd a b c d) ≡ in_fields (nd a' b' c' d')
same-fields e f g i = rw (e, f, g, i)

pub read : (ws : List ℕ) (k r p q d : ℕ) → r ≡ node_word ws k 0 → p ≡ node_word ws k 1 → q ≡ node_word ws k 2 → d ≡ node_word ws k 3 → in_fields (nd r p q d) ≡ in_fields (node_at ws k)
unfolding node_at
read ws k r p q d e f g i = same-fields e f g i

pub step-none : (ws : List ℕ) (at : ℕ) → room_of ws ≤ at → record { found = false; node = no_node; next = at } ≡ node_step_at ws at
unfolding node_step_at
step-none ws at h = rw (le-ltb at (room_of ws) h)

pub step-one : (ws : List ℕ) (at : ℕ) → at < room_of ws → (x : Handed) → x ≡ in_fields (node_at ws at) → record { found = true; node = x; next = at + 1 } ≡ node_step_at ws at
unfolding node_step_at
step-one ws at h x e = rw (lt-ltb at (room_of ws) h, e, add-one at)

-- ── until the end ──
module _ (ws : List ℕ) where
  hands-one : (left at : ℕ) → at < room_of ws → handed_out (suc left) ws at ≡ in_fields (node_at ws at) ∷ handed_out left ws (suc at)
  unfolding handed_out node_step_at
  hands-one left at h = rw (lt-ltb at (room_of ws) h)

  hands_none : (left at : ℕ) → room_of ws ≤ at → handed_out left ws at ≡ []
  unfolding handed_out node_step_at
  hands_none zero at h = refl
  hands_none (suc left) at h = rw (le-ltb at (room_of ws) h)

  handed-from : (left at : ℕ) → room_of ws - at ≤ left → handed_out left ws at ≡ map in_fields (nodes_at ws at (room_of ws - at))
  handed-from zero at h = hands_none zero at (omega (arith, h)) ∙ ap (map in_fields) (flip (no_more ws at (room_of ws) (omega (arith, h))))
  handed-from (suc left) at h = elim (lt-or-ge at (room_of ws)) [
    | inl l ↦
        hands-one left at l ∙ ap (λ (xs : List Handed). in_fields (node_at ws at) ∷ xs) (handed-from left (suc at) (omega (arith, h, l)))
        ∙ ap (map in_fields) (flip (one_more ws at (room_of ws) l))
    | inr g ↦ hands_none (suc left) at g ∙ ap (map in_fields) (flip (no_more ws at (room_of ws) g))
  ]

  pub handed-all : (left : ℕ) → room_of ws ≤ left → handed_out left ws 0 ≡ map in_fields (nodes_at ws 0 (room_of ws))
  handed-all left h = handed-from left 0 (omega (arith, h)) ∙ ap (λ (c : ℕ). map in_fields (nodes_at ws 0 c)) (omega arith)
