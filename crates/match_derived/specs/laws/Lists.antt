-- Where the cells are right, the node list by the cells is the node list of the derivation, cut at the bound on levels.
-- Assumes nothing.
use Prim.Native.Nat.{ℕ, zero, suc, ◌+◌, ◌≤◌}
use Rattle.std.specs.Prelude.{◌≡◌}
use Rattle.std.proofs.Math.Path.{refl, ap, sym as flip}
use Rattle.std.proofs.Common.{◌∙◌, arith}
use mathlib.Core.List.{List, [], ◌∷◌, ◌++◌}
use Rattle.std.proofs.Math.ListN.{length}
use Rattle.grammar.specs.Exp.{Exp, sym, ter, seq, alt, opt, star, plus, ahead, never}
use Rattle.match_meaning.specs.Meaning.{Node, nd, rule, lake, Ask, exp, inside, own, wet, some_of, Tries, any-takes, any-fails, lit-takes, lit-fails, cls-takes, cls-fails, sym-takes, sym-fails, seq-fails, seq-fails-later, seq-takes, alt-first, alt-second, star-ends, star-idles, star-goes, plus-fails, plus-takes, opt-skips, opt-takes, ahead-fails, ahead-takes, never-takes, never-fails, by-rule, by-own, by-water, by-skip, stopped, at-end, own-none, own_is, dry, wet-is, none_of, this-one, later-one, Derives}
use Rattle.match_meaning.proofs.laws.Shape.{From, shape, within}
use Rattle.match_eval.specs.Eval.{body_of, cell_at, ev}
use Rattle.match_list.specs.Nodes.{rep_n, walk_of, node_if, nodes_of}
use Rattle.match_cells.specs.laws.Sound.{plainly}
use Rattle.match_cells.specs.laws.Agrees.{Right, ev-only}
use Rattle.match_list.proofs.laws.NodeSteps.{seq-joins, alt-left, alt-right, opt_none, opt-some, rep-ends, rep-joins, nodes-fails}
use Rattle.match_list.proofs.laws.Cut.{cut, cut-append, cut-none, cut_keeps}

one_more : (m : ℕ) → suc m ≡ 0 → ⊥
one_more m h = omega arith

module _ (bodies : List (Exp ℕ)) (s cs : List ℕ) (right : Right bodies s cs) where
  abbrev takes : Exp ℕ → ℕ → ℕ
  takes e p = ev s cs (length bodies) e p

  -- what the walk of so many levels lists for e at p
  abbrev W : ℕ → ℕ → Exp ℕ → ℕ → List Node
  W left d e p = walk_of s (λ y i. takes y i) (λ x i. nodes_of bodies s cs left d x i) e p

  abbrev Lists : Exp ℕ → ℕ → ℕ → ℕ → List Node → Type 0
  Lists e d p x ns = (left : ℕ) → (x ≡ 0 → ⊥) → W left d e p ≡ cut (d + left) ns

  -- of a star: whatever the bound on rounds, if it is enough
  abbrev Rounds : Exp ℕ → ℕ → ℕ → List Node → Type 0
  Rounds a d p ns = (j : ℕ) → length s ≤ j + p → (left : ℕ) → rep_n j (λ i. takes a i) (λ i. W left d a i) p ≡ cut (d + left) ns

  abbrev Star : Exp ℕ → ℕ → ℕ → List Node → Type 0
  Star (sym r) d p ns = Unit
  Star (ter x) d p ns = Unit
  Star (seq a b) d p ns = Unit
  Star (alt a b) d p ns = Unit
  Star (opt a) d p ns = Unit
  Star (star a) d p ns = Rounds a d p ns
  Star (plus a) d p ns = Unit
  Star (ahead a) d p ns = Unit
  Star (never a) d p ns = Unit

  abbrev Says : Ask → ℕ → ℕ → ℕ → List Node → Type 0
  Says (exp e) d p x ns = Lists e d p x ns × Star e d p ns
  Says (inside (rule e)) d p x ns = Lists e d p x ns
  Says (inside (lake o ss)) d p x ns = Unit
  Says (own o) d p x ns = Unit
  Says (wet w) d p x ns = Unit
  Says (some_of ss) d p x ns = Unit

  star-lists : (a : Exp ℕ) (d p x : ℕ) (ns : List Node) → Rounds a d p ns → Lists (star a) d p x ns × Rounds a d p ns
  unfolding walk_of
  star-lists a d p x ns h = (λ left f. h (length s) (omega arith) left, h)

  ends : (a : Exp ℕ) (d p x : ℕ) → takes a p ≡ x → x ≤ 1 → Rounds a d p []
  unfolding cut
  ends a d p x h l j i left = flip (rep-ends (λ i. takes a i) (λ i. W left d a i) j p x (flip h) l)

  goes : (a : Exp ℕ) (d p m : ℕ) (ns ms : List Node) → takes a p ≡ suc (suc m) → ((left : ℕ) → W left d a p ≡ cut (d + left) ns) → suc (suc m) + p ≤ length s + 1
      → Rounds a d (p + suc m) ms → Rounds a d p (ns ++ ms)
  goes a d p m ns ms h w b r zero i left = absurd (omega arith)
  goes a d p m ns ms h w b r (suc j) i left =
      rep-joins (λ i. takes a i) (λ i. W left d a i) j p m (cut (d + left) ns) (cut (d + left) ms) h (w left) (r j (omega arith) left) ∙ flip (cut-append (d + left) ns ms)

  -- a symbol that matches: its node, if a level is left, and what its body lists
  sym-lists : (left d r p m : ℕ) (ns : List Node) → From d (nd r p (p + m) d ∷ ns) → cell_at s cs (length bodies) r p ≡ suc m
      → Lists (body_of bodies r) (suc d) p (suc m) ns → nodes_of bodies s cs left d r p ≡ cut (d + left) (nd r p (p + m) d ∷ ns)
  unfolding nodes_of node_if
  sym-lists zero d r p m ns f c h = flip (cut-none (d + 0) d (nd r p (p + m) d ∷ ns) (omega arith) f)
  sym-lists (suc left) d r p m ns f c h =
      rw c (ap (λ (x : List Node). nd r p (p + m) d ∷ x) under ∙ flip (cut_keeps (d + suc left) (nd r p (p + m) d) ns (omega arith)))
    where
      under : W left (suc d) (body_of bodies r) p ≡ cut (d + suc left) ns
      under = h left (one_more m) ∙ ap (λ (c : ℕ). cut c ns) (omega arith)

  says : {d p x : ℕ} {q : Ask} {ns : List Node} → Tries (plainly bodies) s d q p x ns → p ≤ length s → Says q d p x ns
  unfolding ev walk_of cut
  says (any-takes h) l = (λ left f. refl, tt)
  says (any-fails h) l = (λ left f. absurd (f refl), tt)
  says (lit-takes h) l = (λ left f. refl, tt)
  says (lit-fails h) l = (λ left f. absurd (f refl), tt)
  says (cls-takes h) l = (λ left f. refl, tt)
  says (cls-fails h) l = (λ left f. absurd (f refl), tt)
  says (sym-takes {d = d} {r = r} {p = p} {m = m} {ns = ns} t) l =
      (λ left f. sym-lists left d r p m ns (shape (plainly bodies) s (sym-takes {r = r} t)).0 (ev-only bodies s cs right {e = sym r} l (sym-takes {r = r} t)) (says t l), tt)
  says (sym-fails t) l = (λ left f. absurd (f refl), tt)
  says (seq-fails t) l = (λ left f. absurd (f refl), tt)
  says (seq-fails-later t u) l = (λ left f. absurd (f refl), tt)
  says (seq-takes {d = d} {p = p} {m = m} {k = k} {ns = ns} {ms = ms} t u) l =
      let v : p + m ≤ length s = omega (arith, within (plainly bodies) s t l) in
      (λ left f. seq-joins _ m _ _ _ _ (ev-only bodies s cs right l t) ((says t l).0 left (one_more m)) ((says u v).0 left (one_more k)) ∙ flip (cut-append (d + left) ns ms), tt)
  says (alt-first {m = m} t) l = (λ left f. flip (alt-left _ _ _ (suc m) (flip (ev-only bodies s cs right l t)) (one_more m)) ∙ (says t l).0 left f, tt)
  says (alt-second t u) l = (λ left f. flip (alt-right _ _ _ 0 (flip (ev-only bodies s cs right l t)) refl) ∙ (says u l).0 left f, tt)
  says (star-ends {d = d} {p = p} {a = a} t) l = star-lists a d p 1 [] (ends a d p 0 (ev-only bodies s cs right l t) (omega arith))
  says (star-idles {d = d} {p = p} {a = a} t) l = star-lists a d p 1 [] (ends a d p 1 (ev-only bodies s cs right l t) (omega arith))
  says (star-goes {d = d} {p = p} {m = m} {k = k} {a = a} {ns = ns} {ms = ms} t u) l =
      let v : p + suc m ≤ length s = omega (arith, within (plainly bodies) s t l) in
      star-lists a d p (suc (suc m + k)) (ns ++ ms) (goes a d p m ns ms (ev-only bodies s cs right l t) (λ left. (says t l).0 left (one_more (suc m))) (within (plainly bodies) s t l) (says u v).1)
  says (plus-fails t) l = (λ left f. absurd (f refl), tt)
  says (plus-takes {d = d} {p = p} {m = m} {ns = ns} {ms = ms} t u) l =
      let v : p + m ≤ length s = omega (arith, within (plainly bodies) s t l) in
      (λ left f. seq-joins _ m _ _ _ _ (ev-only bodies s cs right l t) ((says t l).0 left (one_more m)) ((says u v).1 (length s) (omega arith) left) ∙ flip (cut-append (d + left) ns ms), tt)
  says (opt-skips t) l = (λ left f. flip (opt_none _ _ 0 (flip (ev-only bodies s cs right l t)) refl), tt)
  says (opt-takes {m = m} t) l = (λ left f. flip (opt-some _ _ (suc m) (flip (ev-only bodies s cs right l t)) (one_more m)) ∙ (says t l).0 left f, tt)
  says (ahead-fails t) l = (λ left f. absurd (f refl), tt)
  says (ahead-takes t) l = (λ left f. refl, tt)
  says (never-takes t) l = (λ left f. refl, tt)
  says (never-fails t) l = (λ left f. absurd (f refl), tt)
  says (by-rule t) l = (says t l).0
  says (by-own t) l = tt
  says (by-water t u) l = tt
  says (by-skip t u v h) l = tt
  says (stopped t u v) l = tt
  says (at-end t u v h) l = tt
  says own-none l = tt
  says (own_is t) l = tt
  says dry l = tt
  says (wet-is t) l = tt
  says none_of l = tt
  says (this-one t) l = tt
  says (later-one t u) l = tt

  -- the nodes of a symbol that matches, in at most so many levels
  pub lists : {d r p m : ℕ} {ns : List Node} (left : ℕ) → p ≤ length s → Derives (plainly bodies) s d (sym r) p (suc m) ns → nodes_of bodies s cs left d r p ≡ cut (d + left) ns
  unfolding walk_of
  lists {m = m} left l t = (says t l).0 left (one_more m)

  -- a symbol that fails has none
  pub lists-none : {d r p : ℕ} {ns : List Node} (left : ℕ) → p ≤ length s → Derives (plainly bodies) s d (sym r) p 0 ns → nodes_of bodies s cs left d r p ≡ []
  unfolding ev
  lists-none {d} {r} {p} left l t = flip (nodes-fails bodies s cs d r p left 0 (flip (ev-only bodies s cs right {e = sym r} l t)) refl)
