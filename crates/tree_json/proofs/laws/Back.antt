-- The text of a good list is read, and gives the list. Assumes nothing.
use Prim.Native.Nat.{ℕ, zero, suc, ◌-◌, ◌≤◌}
use Rattle.std.proofs.Math.Path.{◌≡◌, refl, ap, subst}
use Rattle.std.proofs.Common.{sym, ◌∙◌, arith, length-append, length-drop}
use Rattle.std.proofs.Math.Bool.{Bool, true, false}
use Rattle.std.specs.Prelude.{cond, ◌&&◌, leb}
use mathlib.Core.List.{List, [], ◌∷◌, ◌++◌, append_assoc}
use Rattle.std.proofs.Math.Option.{Option, none, some}
use Rattle.std.proofs.Math.Dec.{eqb}
use Rattle.std.proofs.Math.ListN.{length}
use borrow.Author.Tests.{leb-true, eqb-true, eqb-false, eq-eqb, ne_eqb, le-leb}
use Rattle.base_facts.specs.laws.Bools.{and_both}
use Rattle.read_tokens.specs.Token.{Symbol}
use Rattle.read_tokens.specs.Bounds.{input_bound}
use Rattle.match_meaning.specs.Meaning.{Node}
use Rattle.tree_list.specs.Preorder.{Gap, admits, gaps_behind, bad_from, whole}
use Rattle.tree_list.specs.laws.Bad.{goes_on}
use Rattle.tree_list.specs.laws.Gaps.{Stands as LetIn, admits-parts}
use Rattle.tree_json.specs.Json.{comma, closings, behind_node, head_json, json_text}
use Rattle.tree_json.specs.Reading.{ate, Took, Head, closes_at, next_at, head_at, nodes_from, parsed, Plainly}
use Rattle.tree_json.proofs.laws.Places.{Stands, ate-back}
use Rattle.tree_json.proofs.laws.Heads.{head-some, head_first, Read, head-back}
use Rattle.tree_json.proofs.laws.Closes.{Shut, closes-back}
use Rattle.tree_json.proofs.laws.Only.{choose}
use Rattle.tree_json.proofs.laws.Good.{Inside, inside-at, inside-gaps_behind, gaps_behind-length}

-- ── each node takes a byte ──
text-long : (f : ℕ → Symbol) (s : List ℕ) (ns : List Node) → length ns ≤ length (json_text f s ns)
unfolding json_text
text-long f s [] = omega arith
text-long f s (x ∷ xs) =
    omega (arith, head-some f s x, text-long f s xs, length-append (head_json f s x) (behind_node x.depth xs ++ json_text f s xs), length-append (behind_node x.depth xs) (json_text f s xs))

text-first : (f : ℕ → Symbol) (s : List ℕ) (y : Node) (ys : List Node) (z : List ℕ) → json_text f s (y ∷ ys) ≡ 93 ∷ z → ⊥
unfolding json_text
text-first f s y ys z e =
    let h = head_first f s y in
    let g : (123 ∷ h.0) ++ (behind_node y.depth ys ++ json_text f s ys) ≡ 93 ∷ z = sym (ap (λ (w : List ℕ). w ++ (behind_node y.depth ys ++ json_text f s ys)) h.1) ∙ e in
    let n : ◌≡◌ {A = ℕ} 123 93 = cc in
    omega arith

-- ── behind a node ──
-- the last one: all are closed, and the text ends
record AllClosed (js : List ℕ) (d : ℕ) (c : Took) : Type 0 where
  count : c.value ≡ suc d
  last : c.place ≡ length js

all_closed : (js : List ℕ) (d p : ℕ) → Stands js p (closings (suc d) ++ []) → AllClosed js d (closes_at (suc d) js p)
all_closed js d p t =
    let c : Took = closes_at (suc d) js p in
    let w : Shut (suc d) js [] c = closes-back (suc d) (suc d) js [] p (omega arith) (λ l y e. omega arith) t in
    let u : Stands js c.place [] = w.behind in
    record { count = w.count; last = omega (arith, u.within, length-drop c.place js, ap length u.rest) }

-- the place of the next node, by whether none was closed
next_by : List ℕ → Took → Bool → ℕ
next_by js c x = cond x c.place (ate comma js c.place)

module _ (f : ℕ → Symbol) (s js : List ℕ) where
  -- what is read behind a node of depth d, where y is the next
  record Next (d : ℕ) (y : Node) (ys : List Node) (c : Took) : Type 0 where
    fewer : c.value ≡ suc d → ⊥
    depth : suc d - c.value ≡ y.depth
    text : Stands js (next_at js c) (json_text f s (y ∷ ys))

  first-child : (d p : ℕ) (y : Node) (ys : List Node) → y.depth ≡ suc d → Stands js p (json_text f s (y ∷ ys)) → Next d y ys (closes_at (suc d) js p)
  unfolding closings next_by
  first-child d p y ys e t =
      let c : Took = closes_at (suc d) js p in
      let w : Shut 0 js (json_text f s (y ∷ ys)) c = closes-back (suc d) 0 js (json_text f s (y ∷ ys)) p (omega arith) (λ l. text-first f s y ys) t in
      let v : c.value ≡ 0 = w.count in
      record {
        fewer = λ h. omega arith;
        depth = omega arith;
        text = subst (λ (x : Bool). Stands js (next_by js c x) (json_text f s (y ∷ ys))) (sym (eq-eqb c.value 0 v)) w.behind;
      }

  sibling : (d p : ℕ) (y : Node) (ys : List Node) → 1 ≤ y.depth → y.depth ≤ d → Stands js p (closings (suc d - y.depth) ++ (comma ++ json_text f s (y ∷ ys)))
      → Next d y ys (closes_at (suc d) js p)
  unfolding next_by
  sibling d p y ys l m t =
      let c : Took = closes_at (suc d) js p in
      let w : Shut (suc d - y.depth) js (comma ++ json_text f s (y ∷ ys)) c =
      closes-back (suc d) (suc d - y.depth) js (comma ++ json_text f s (y ∷ ys)) p (omega arith) (λ _ z e. let n : ◌≡◌ {A = ℕ} 44 93 = cc in omega arith) t
      in
      let v : c.value ≡ suc d - y.depth = w.count in
      record {
        fewer = λ h. omega arith;
        depth = omega arith;
        text =
            subst (λ (x : Bool). Stands js (next_by js c x) (json_text f s (y ∷ ys))) (sym (ne_eqb c.value 0 (λ h. omega arith))) (ate-back comma w.behind);
      }

  next-node : (d p : ℕ) (y : Node) (ys : List Node) → 1 ≤ y.depth → y.depth ≤ suc d → Stands js p (behind_node d (y ∷ ys) ++ json_text f s (y ∷ ys)) → Next d y ys (closes_at (suc d) js p)
  unfolding behind_node
  next-node d p y ys l m t = go (eqb y.depth (suc d)) refl t
    where
      go : (b : Bool) → eqb y.depth (suc d) ≡ b → Stands js p (cond b [] (closings (suc d - y.depth) ++ comma) ++ json_text f s (y ∷ ys))
          → Next d y ys (closes_at (suc d) js p)
      go true e t = first-child d p y ys (eqb-true y.depth (suc d) e) t
      go false e t =
          let n : y.depth ≡ suc d → ⊥ = eqb-false y.depth (suc d) e in
          sibling d p y ys l (omega arith) (subst (Stands js p) (append_assoc (closings (suc d - y.depth)) comma (json_text f s (y ∷ ys))) t)

-- ── the list ──
module _ (f : ℕ → Symbol) (R : ℕ) (s js : List ℕ) where
  -- a turn at a good node x whose head ends at p
  abbrev turn_at : ℕ → List Gap → ℕ → Node → ℕ → Option (List Node)
  turn_at left gs k x p =
      let c : Took = closes_at (suc x.depth) js p in
      choose true (eqb c.value (suc x.depth)) (eqb c.place (length js)) x
      (nodes_from f R s left js (gaps_behind gs x) (suc k) (suc x.depth - c.value) (next_at js c))

  record Turned (left : ℕ) (gs : List Gap) (k at : ℕ) (x : Node) (z : List ℕ) : Type 0 where
    place : ℕ
    behind : Stands js place z
    turn : nodes_from f R s (suc left) js gs k x.depth at ≡ turn_at left gs k x place

  turned : Plainly f R → length s ≤ input_bound → (left : ℕ) (gs : List Gap) (k at : ℕ) (x : Node) (z : List ℕ) → Inside (length s) gs → admits R gs k x ≡ true
      → Stands js at (head_json f s x ++ z) → Turned left gs k at x z
  unfolding nodes_from input_bound
  turned g short left gs k at x z w i t =
      let b : LetIn R gs k x = admits-parts R gs k x i in
      let l : x.end ≤ length s = omega (arith, inside-at (length s) gs x.depth w) in
      let h : Head = head_at f R s js x.depth at in
      let r : Read js x z h = head-back f R s g js at x z b.known (omega arith) (omega arith) t in
      let c : Took = closes_at (suc x.depth) js h.place in
      let by : Bool → Node → Option (List Node) =
      λ a y. choose a (eqb c.value (suc x.depth)) (eqb c.place (length js)) y (nodes_from f R s left js (gaps_behind gs y) (suc k) (suc x.depth - c.value) (next_at js c))
      in
      record {
        place = h.place;
        behind = r.behind;
        turn =
            ap (λ (y : Node). by (leb h.place (length js) && admits R gs k y) y) r.same
            ∙ ap (λ (a : Bool). by a x) (and_both (leb h.place (length js)) (admits R gs k x) (le-leb h.place (length js) r.behind.within) i);
      }

  turn_last : (left : ℕ) (gs : List Gap) (k : ℕ) (x : Node) (p : ℕ) → AllClosed js x.depth (closes_at (suc x.depth) js p) → turn_at left gs k x p ≡ some (x ∷ [])
  turn_last left gs k x p c = rw (eq-eqb _ _ c.count, eq-eqb _ _ c.last)

  turn_more : (left : ℕ) (gs : List Gap) (k : ℕ) (x : Node) (p : ℕ) (y : Node) (ys : List Node) → Next f s js x.depth y ys (closes_at (suc x.depth) js p)
      → nodes_from f R s left js (gaps_behind gs x) (suc k) y.depth (next_at js (closes_at (suc x.depth) js p)) ≡ some (y ∷ ys) → turn_at left gs k x p ≡ some (x ∷ y ∷ ys)
  turn_more left gs k x p y ys n e = rw (ne_eqb _ _ n.fewer, n.depth, e)

  nodes-back : Plainly f R → length s ≤ input_bound → (left : ℕ) (gs : List Gap) (k at : ℕ) (x : Node) (xs : List Node) → Inside (length s) gs → suc (length xs) ≤ left
      → bad_from R gs k (x ∷ xs) ≡ none → Stands js at (json_text f s (x ∷ xs)) → nodes_from f R s left js gs k x.depth at ≡ some (x ∷ xs)
  unfolding json_text behind_node
  nodes-back g short zero gs k at x xs w l e t = absurd (omega arith)
  nodes-back g short (suc left) gs k at x [] w l e t =
      let u : Turned left gs k at x (closings (suc x.depth) ++ []) = turned g short left gs k at x _ w (goes_on R gs k x [] e).0 t in
      u.turn ∙ turn_last left gs k x u.place (all_closed js x.depth u.place u.behind)
  nodes-back g short (suc left) gs k at x (y ∷ ys) w l e t =
      let i = goes_on R gs k x (y ∷ ys) e in
      let u : Turned left gs k at x (behind_node x.depth (y ∷ ys) ++ json_text f s (y ∷ ys)) = turned g short left gs k at x _ w i.0 t in
      let a : LetIn R gs k x = admits-parts R gs k x i.0 in
      let b : LetIn R (gaps_behind gs x) (suc k) y = admits-parts R (gaps_behind gs x) (suc k) y (goes_on R (gaps_behind gs x) (suc k) y ys i.1).0 in
      let c : Took = closes_at (suc x.depth) js u.place in
      let n : Next f s js x.depth y ys c =
      next-node f s js x.depth u.place y ys (leb-true 1 y.depth b.first) (omega (arith, gaps_behind-length gs x)) u.behind
      in
      let rest : nodes_from f R s left js (gaps_behind gs x) (suc k) y.depth (next_at js c) ≡ some (y ∷ ys) =
      nodes-back g short left (gaps_behind gs x) (suc k) (next_at js c) y ys (inside-gaps_behind (length s) gs x (omega (arith, inside-at (length s) gs x.depth w)) w) (omega arith) i.1 n.text
      in
      u.turn ∙ turn_more left gs k x u.place y ys n rest

-- `json-back`
pub texts-are-read : (f : ℕ → Symbol) (R : ℕ) (s : List ℕ) → Plainly f R → length s ≤ input_bound → (ns : List Node) → bad_from R (whole (length s)) 0 ns ≡ none → 1 ≤ length ns
    → parsed f R s (json_text f s ns) ≡ some ns
unfolding parsed
texts-are-read f R s g short [] e m = absurd (omega arith)
texts-are-read f R s g short (x ∷ xs) e m =
    let js : List ℕ = json_text f s (x ∷ xs) in
    let b : LetIn R (whole (length s)) 0 x = admits-parts R (whole (length s)) 0 x (goes_on R (whole (length s)) 0 x xs e).0 in
    ap (λ (d : ℕ). nodes_from f R s (length js) js (whole (length s)) 0 d 0) (sym (eqb-true x.depth 0 b.first))
    ∙ nodes-back f R s js g short (length js) (whole (length s)) 0 0 x xs (omega arith, tt) (text-long f s (x ∷ xs)) e (record { within = omega arith; rest = refl })
