-- Whatever is read has just this text: a text that says a node list is that list's text, and the list is a preorder list. Assumes nothing.
use Prim.Native.Nat.{ℕ, zero, suc, ◌-◌, ◌≤◌}
use Rattle.std.specs.Prelude.{◌≡◌, false, ◌&&◌, ◌⊎◌, eqb, leb}
use Rattle.std.proofs.Math.Path.{refl, ap, subst}
use Rattle.std.proofs.Common.{sym, ◌∙◌, inl, inr, arith}
use Rattle.std.proofs.Math.Bool.{Bool, true, cond}
use mathlib.Core.List.{List, [], ◌∷◌, ◌++◌, append_assoc}
use Rattle.std.proofs.Math.Option.{Option, none, some}
use Rattle.std.proofs.Math.Logic.{⊎_elim}
use Rattle.std.proofs.Math.ListN.{length, drop}
use Rattle.std.proofs.Math.Seq.{drop-length}
use borrow.Author.Tests.{leb-true, eqb-true, eqb-false, eq-eqb, ne_eqb}
use Rattle.base_facts.specs.laws.Bools.{and_parts}
use Rattle.base_facts.specs.laws.Options.{some-none}
use Rattle.read_tokens.specs.Token.{Symbol}
use Rattle.match_meaning.specs.Meaning.{Node}
use Rattle.tree_list.specs.Preorder.{Gap, admits, gaps_behind, bad_from, whole}
use Rattle.tree_json.specs.Json.{comma, closings, behind_node, head_json, json_text}
use Rattle.tree_json.specs.Reading.{ate, Took, Head, closes_at, cons_to, next_at, head_at, nodes_from, parsed, SaysList}
use Rattle.tree_json.proofs.laws.Places.{Ate, ate-only, then}
use Rattle.tree_json.proofs.laws.Heads.{head-only}
use Rattle.tree_json.proofs.laws.Closes.{Closed, closes-only}

-- the first node, of depth d
abbrev First : ℕ → List Node → Type 0
First d [] = ⊥
First d (x ∷ xs) = x.depth ≡ d

-- ── a turn of the reading, by its three tests: the node is good, all are closed, the text ends ──
abbrev pub choose : Bool → Bool → Bool → Node → Option (List Node) → Option (List Node)
choose a b e x o = elim a [ true ↦ elim b [ true ↦ cond e (some (x ∷ [])) none | false ↦ cons_to x o ] | false ↦ none ]

abbrev Chosen : Bool → Bool → Bool → Node → Option (List Node) → List Node → Type 0
Chosen a b e x o ns =
    (a ≡ true) × (((b ≡ true) × (e ≡ true) × (ns ≡ x ∷ [])) ⊎ ((b ≡ false) × (xs : List Node) × (o ≡ some xs) × (ns ≡ x ∷ xs)))

chosen : (a b e : Bool) (x : Node) (o : Option (List Node)) (ns : List Node) → choose a b e x o ≡ some ns → Chosen a b e x o ns
chosen true true true x o ns h = (refl, inl (refl, refl, (cc)))
chosen true true false x o ns h = absurd (some-none ns (sym h))
chosen true false e x none ns h = absurd (some-none ns (sym h))
chosen true false e x (some xs) ns h = (refl, inr (refl, xs, refl, (cc)))
chosen false b e x o ns h = absurd (some-none ns (sym h))

module _ (f : ℕ → Symbol) (R : ℕ) (s js : List ℕ) where
  -- the list's text stands from a place on, and the list is good from node k on, whose depth is d
  record Said (gs : List Gap) (k d at : ℕ) (ns : List Node) : Type 0 where
    within : at ≤ length js
    text : drop at js ≡ json_text f s ns
    good : bad_from R gs k ns ≡ none
    first : First d ns

  admitted : (gs : List Gap) (k : ℕ) (x : Node) (xs : List Node) → admits R gs k x ≡ true → bad_from R (gaps_behind gs x) (suc k) xs ≡ none → bad_from R gs k (x ∷ xs) ≡ none
  unfolding bad_from
  admitted gs k x xs e h = ap (λ (b : Bool). cond b (bad_from R (gaps_behind gs x) (suc k) xs) (some k)) e ∙ h

  -- behind the last node all are closed
  last-said : (gs : List Gap) (k at : ℕ) (x : Node) (p : ℕ) (c : Took) → Ate (head_json f s x) js at p → Closed (suc x.depth) js p c → c.value ≡ suc x.depth → c.place ≡ length js
      → admits R gs k x ≡ true → Said gs k x.depth at (x ∷ [])
  unfolding json_text behind_node bad_from
  last-said gs k at x p c a w e g i =
      record {
        within = a.within;
        text =
            then a
            (w.pairs ∙ ap (λ (n : ℕ). closings n ++ drop c.place js) e ∙ ap (λ (n : ℕ). closings (suc x.depth) ++ drop n js) g
            ∙ ap (λ (l : List ℕ). closings (suc x.depth) ++ l) (drop-length js));
        good = admitted gs k x [] i refl;
        first = refl;
      }

  -- what stands behind a node that has a next one
  behind-said : (d p : ℕ) (c : Took) (ns : List Node) → Closed (suc d) js p c → (c.value ≡ suc d → ⊥) → next_at js c ≤ length js → drop (next_at js c) js ≡ json_text f s ns
      → First (suc d - c.value) ns → drop p js ≡ behind_node d ns ++ json_text f s ns
  unfolding behind_node closings
  behind-said d p c [] w n l e i = absurd i
  behind-said d p c (y ∷ ys) w n l e i = go (eqb c.value 0) refl l e
    where
      at : Bool → ℕ
      at x = cond x c.place (ate comma js c.place)

      ns : List Node
      ns = y ∷ ys

      go : (x : Bool) → eqb c.value 0 ≡ x → at x ≤ length js → drop (at x) js ≡ json_text f s ns → drop p js ≡ behind_node d ns ++ json_text f s ns
      go true z l e =
          let v : c.value ≡ 0 = eqb-true c.value 0 z in
          let h : y.depth ≡ suc d = omega arith in
          w.pairs ∙ ap (λ (n : ℕ). closings n ++ drop c.place js) v ∙ e
          ∙ ap (λ (b : Bool). cond b [] (closings (suc d - y.depth) ++ comma) ++ json_text f s ns) (sym (eq-eqb y.depth (suc d) h))
      go false z l e =
          let v : c.value ≡ 0 → ⊥ = eqb-false c.value 0 z in
          let m : c.value ≤ suc d = w.most in
          let h : y.depth ≡ suc d → ⊥ = λ u. v (omega arith) in
          let o : c.value ≡ suc d - y.depth = omega arith in
          w.pairs ∙ ap (λ (l : List ℕ). closings c.value ++ l) (then (ate-only comma js c.place l) e) ∙ ap (λ (n : ℕ). closings n ++ (comma ++ json_text f s ns)) o
          ∙ sym (append_assoc (closings (suc d - y.depth)) comma (json_text f s ns))
          ∙ ap (λ (b : Bool). cond b [] (closings (suc d - y.depth) ++ comma) ++ json_text f s ns) (sym (ne_eqb y.depth (suc d) h))

  -- a node, and those behind it
  more-said : (gs : List Gap) (k at : ℕ) (x : Node) (p : ℕ) (c : Took) (ns : List Node) → Ate (head_json f s x) js at p → Closed (suc x.depth) js p c → (c.value ≡ suc x.depth → ⊥)
      → admits R gs k x ≡ true → Said (gaps_behind gs x) (suc k) (suc x.depth - c.value) (next_at js c) ns → Said gs k x.depth at (x ∷ ns)
  unfolding json_text
  more-said gs k at x p c ns a w n i h =
      record {
        within = a.within;
        text = then a (behind-said x.depth p c ns w n h.within h.text h.first);
        good = admitted gs k x ns i h.good;
        first = refl;
      }

  said : (left : ℕ) (gs : List Gap) (k d at : ℕ) (ns : List Node) → nodes_from f R s left js gs k d at ≡ some ns → Said gs k d at ns
  unfolding nodes_from head_at
  said zero gs k d at ns e = absurd (some-none ns (sym e))
  said (suc left) gs k d at ns e =
      let h : Head = head_at f R s js d at in
      let x : Node = h.node in
      let c : Took = closes_at (suc d) js h.place in
      let o : Option (List Node) = nodes_from f R s left js (gaps_behind gs x) (suc k) (suc d - c.value) (next_at js c) in
      let u : Chosen (leb h.place (length js) && admits R gs k x) (eqb c.value (suc d)) (eqb c.place (length js)) x o ns = chosen _ _ _ x o ns e in
      let g : (leb h.place (length js) ≡ true) × (admits R gs k x ≡ true) = and_parts (leb h.place (length js)) (admits R gs k x) u.0 in
      let l : h.place ≤ length js = leb-true h.place (length js) g.0 in
      let i : admits R gs k x ≡ true = g.1 in
      let a : Ate (head_json f s x) js at h.place = head-only f R s js d at l in
      let w : Closed (suc d) js h.place c = closes-only (suc d) js h.place l in
      ⊎_elim
      (λ v. subst (Said gs k d at) (sym v.2) (last-said gs k at x h.place c a w (eqb-true c.value (suc d) v.0) (eqb-true c.place (length js) v.1) i))
      (λ v.
      subst (Said gs k d at) (sym v.3) (
      more-said gs k at x h.place c v.1 a w (eqb-false c.value (suc d) v.0) i (
      said left (gaps_behind gs x) (suc k) (suc d - c.value) (next_at js c) v.1 v.2)))
      u.1

  some-nodes : (d : ℕ) (ns : List Node) → First d ns → 1 ≤ length ns
  some-nodes d [] i = absurd i
  some-nodes d (x ∷ xs) i = omega arith

  -- `json-only`
  pub read-only-texts : (ns : List Node) → parsed f R s js ≡ some ns → SaysList f R s js ns
  unfolding parsed
  read-only-texts ns e =
      let h : Said (whole (length s)) 0 0 0 ns = said (length js) (whole (length s)) 0 0 0 ns e in
      record { text = h.text; good = h.good; many = some-nodes 0 ns h.first }
