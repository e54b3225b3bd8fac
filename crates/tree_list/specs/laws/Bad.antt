-- The first bad node of a list, step by step, and what it says of words. Assumes nothing.
use Prim.Native.Nat.{ℕ, zero, suc, ◌+◌, ◌*◌, ◌≤◌, ◌<◌}
use Rattle.std.specs.Prelude.{◌≡◌, Bool, cond, ◌&&◌, ◌⊎◌, leb, length, take}
use Rattle.std.proofs.Math.Path.{refl}
use Rattle.std.proofs.Common.{subst, ◌∙◌, sym as flip, arith}
use Rattle.std.proofs.Math.Bool.{true, false}
use Rattle.std.proofs.Math.Logic.{inl, inr}
use mathlib.Core.List.{List, [], ◌∷◌}
use Rattle.std.proofs.Math.Option.{Option, none, some, some-injective}
use Rattle.std.proofs.Math.Dec.{eqb}
use borrow.Author.Tests.{le-leb, leb-true, eq-eqb, eqb-true}
use Rattle.base_facts.specs.laws.Bools.{and_parts}
use Rattle.base_facts.specs.laws.Options.{some-none}
use Rattle.read_tokens.specs.Bounds.{node_words}
use Rattle.match_meaning.specs.Meaning.{Node}
use Rattle.match_list.specs.Nodes.{room_of, nodes_at}
use Rattle.tree_list.specs.Preorder.{Gap, admits, gaps_behind, bad_from, whole, or_else, cut_off, bad_node}

-- ── of a list ──
goes_by : (b : Bool) (o : Option ℕ) (k : ℕ) → cond b o (some k) ≡ none → (b ≡ true) × (o ≡ none)
goes_by true o k e = (refl, e)
goes_by false o k e = absurd (some-none k e)

module _ (R : ℕ) where
  pub goes_on : (gs : List Gap) (k : ℕ) (x : Node) (xs : List Node) → bad_from R gs k (x ∷ xs) ≡ none
      → (admits R gs k x ≡ true) × (bad_from R (gaps_behind gs x) (suc k) xs ≡ none)
  unfolding bad_from
  goes_on gs k x xs e = goes_by (admits R gs k x) (bad_from R (gaps_behind gs x) (suc k) xs) k e

  pub goes_through : (gs : List Gap) (k : ℕ) (x : Node) (xs : List Node) → admits R gs k x ≡ true → bad_from R gs k (x ∷ xs) ≡ bad_from R (gaps_behind gs x) (suc k) xs
  unfolding bad_from
  goes_through gs k x xs e = rw e

  pub stops_at : (gs : List Gap) (k : ℕ) (x : Node) (xs : List Node) → admits R gs k x ≡ false → bad_from R gs k (x ∷ xs) ≡ some k
  unfolding bad_from
  stops_at gs k x xs e = rw e

  -- a front of a good list is good
  pub front-good : (gs : List Gap) (k : ℕ) (xs : List Node) (i : ℕ) → bad_from R gs k xs ≡ none → bad_from R gs k (take i xs) ≡ none
  unfolding bad_from
  front-good gs k xs zero e = refl
  front-good gs k [] (suc i) e = refl
  front-good gs k (x ∷ xs) (suc i) e =
      let h : (admits R gs k x ≡ true) × (bad_from R (gaps_behind gs x) (suc k) xs ≡ none) = goes_on gs k x xs e in
      goes_through gs k x (take i xs) h.0 ∙ front-good (gaps_behind gs x) (suc k) xs i h.1

  -- where it stops: at the list's node i, before which it is good
  pub record Stops (gs : List Gap) (j : ℕ) (xs : List Node) (k : ℕ) : Type 0 where
    pub i : ℕ
    pub at : k ≡ j + i
    pub inside : i < length xs
    pub before : bad_from R gs j (take i xs) ≡ none
    pub with : bad_from R gs j (take (suc i) xs) ≡ some k

  stops-by : (gs : List Gap) (j : ℕ) (x : Node) (xs : List Node) (k : ℕ) (b : Bool) → admits R gs j x ≡ b
      → (bad_from R (gaps_behind gs x) (suc j) xs ≡ some k → Stops (gaps_behind gs x) (suc j) xs k) → cond b (bad_from R (gaps_behind gs x) (suc j) xs) (some j) ≡ some k
      → Stops gs j (x ∷ xs) k
  unfolding bad_from
  stops-by gs j x xs k true h f e =
      let r : Stops (gaps_behind gs x) (suc j) xs k = f e in
      record {
        i = suc r.i;
        at = omega (arith, r.at);
        inside = omega (arith, r.inside);
        before = goes_through gs j x (take r.i xs) h ∙ r.before;
        with = goes_through gs j x (take (suc r.i) xs) h ∙ r.with;
      }
  stops-by gs j x xs k false h f e =
      record { i = 0; at = omega (arith, some-injective j k e); inside = omega arith; before = refl; with = stops_at gs j x [] h ∙ e }

  pub stops : (gs : List Gap) (j : ℕ) (xs : List Node) (k : ℕ) → bad_from R gs j xs ≡ some k → Stops gs j xs k
  unfolding bad_from
  stops gs j [] k e = absurd (some-none k (flip e))
  stops gs j (x ∷ xs) k e = stops-by gs j x xs k (admits R gs j x) refl (λ h. stops (gaps_behind gs x) (suc j) xs k h) e

  pub stops-at-first : (gs : List Gap) (xs : List Node) (k : ℕ) → bad_from R gs 0 xs ≡ some k
      → (k < length xs) × (bad_from R gs 0 (take k xs) ≡ none) × (bad_from R gs 0 (take (suc k) xs) ≡ some k)
  stops-at-first gs xs k e =
      let s : Stops gs 0 xs k = stops gs 0 xs k e in
      let i : s.i ≡ k = omega (arith, s.at) in
      (omega (arith, s.inside, i), subst (λ (l : ℕ). bad_from R gs 0 (take l xs) ≡ none) i s.before, subst (λ (l : ℕ). bad_from R gs 0 (take (suc l) xs) ≡ some k) i s.with)

-- ── of words ──
or-none : (a b : Option ℕ) → or_else a b ≡ none → (a ≡ none) × (b ≡ none)
or-none none b e = (refl, e)
or-none (some k) b e = absurd (some-none k e)

or_some : (a b : Option ℕ) (k : ℕ) → or_else a b ≡ some k → (a ≡ some k) ⊎ ((a ≡ none) × (b ≡ some k))
or_some none b k e = inr (refl, e)
or_some (some j) b k e = inl e

cut_by : (b : Bool) (r k : ℕ) → cond b none (some r) ≡ some k → k ≡ r
cut_by true r k e = absurd (some-none k (flip e))
cut_by false r k e = flip (some-injective r k e)

-- the list is good, has a node, and nothing is cut off
pub record Good (R n : ℕ) (ws : List ℕ) : Type 0 where
  pub list : bad_from R (whole n) 0 (nodes_at ws 0 (room_of ws)) ≡ none
  pub some-node : 1 ≤ room_of ws
  pub exact : node_words * room_of ws ≡ length ws

module _ (R n : ℕ) (ws : List ℕ) where
  pub good-parts : bad_node R n ws ≡ none → Good R n ws
  unfolding bad_node
  good-parts e =
      let h : (bad_from R (whole n) 0 (nodes_at ws 0 (room_of ws)) ≡ none) × (cut_off ws ≡ none) = or-none (bad_from R (whole n) 0 (nodes_at ws 0 (room_of ws))) (cut_off ws) e in
      let t : ((leb 1 (room_of ws) && eqb (node_words * room_of ws) (length ws)) ≡ true) × (◌≡◌ {A = Option ℕ} none none) =
      goes_by (leb 1 (room_of ws) && eqb (node_words * room_of ws) (length ws)) none (room_of ws) h.1
      in
      let p : (leb 1 (room_of ws) ≡ true) × (eqb (node_words * room_of ws) (length ws) ≡ true) = and_parts (leb 1 (room_of ws)) _ t.0 in
      record { list = h.0; some-node = leb-true 1 (room_of ws) p.0; exact = eqb-true (node_words * room_of ws) (length ws) p.1 }

  pub parts-good : Good R n ws → bad_node R n ws ≡ none
  unfolding bad_node
  parts-good g = rw (g.list, le-leb 1 (room_of ws) g.some-node, eq-eqb (node_words * room_of ws) (length ws) g.exact)

  -- bad in the list, or at what is cut off
  pub bad-cases : (k : ℕ) → bad_node R n ws ≡ some k
      → (bad_from R (whole n) 0 (nodes_at ws 0 (room_of ws)) ≡ some k) ⊎ ((bad_from R (whole n) 0 (nodes_at ws 0 (room_of ws)) ≡ none) × (k ≡ room_of ws))
  unfolding bad_node
  bad-cases k e = elim (or_some (bad_from R (whole n) 0 (nodes_at ws 0 (room_of ws))) (cut_off ws) k e) [
    | inl h ↦ inl h
    | inr h ↦ inr (h.0, cut_by (leb 1 (room_of ws) && eqb (node_words * room_of ws) (length ws)) (room_of ws) k h.1)
  ]
