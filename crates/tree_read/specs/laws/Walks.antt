-- From the nodes that code reads one after the other to the list of a text. Assumes nothing.
use Rattle.std.specs.Prelude.{ℕ, zero, suc, ◌+◌, ◌-◌, ◌*◌, ◌≤◌, ◌<◌, ◌≡◌, refl, Bool, ◌&&◌, List, [], ◌∷◌, ◌++◌, leb, length, get_or, set, replicate, Option as Maybe, None, Some}
use Rattle.std.proofs.Math.Path.{sym, ap}
use Rattle.std.proofs.Common.{◌∙◌, ⊎_elim, subst, arith, length-append, le-leb}
use Rattle.std.proofs.Math.Bool.{true, false}
use Rattle.std.proofs.Math.Option.{Option, none, some}
use Rattle.std.proofs.lemmas.List.Edits.{sets}
use Rattle.std.proofs.Math.Seq.{set_out}
use Rattle.std.proofs.lemmas.Bool.{lt-leb}
use Rattle.base_facts.specs.laws.Options.{some-none}
use Rattle.read_tokens.specs.Token.{Symbol}
use Rattle.read_tokens.specs.Bounds.{depth_bound, node_words}
use Rattle.match_meaning.specs.Meaning.{Node, nd}
use Rattle.match_list.specs.Nodes.{in_words, put_node, written}
use Rattle.tree_list.specs.Preorder.{Gap, gap_at, admits, gaps_behind, whole}
use Rattle.tree_list.specs.steps.Gaps.{Gapped, Admitted}
use Rattle.tree_list.specs.laws.Gaps.{admits-parts, gaps_behind-length}
use Rattle.tree_json.specs.Reading.{closes_at, cons_to, head_at, nodes_from, parsed}
use Rattle.tree_read.specs.declared.heads.Then.{Then}
use Rattle.tree_read.specs.declared.heads.Then.TheVariants.{Last, More}
use Rattle.tree_read.specs.laws.Heads.{past-head}
use Rattle.tree_read.specs.steps.Walks.{Headed, goes_on, behind_pairs, Low, Fades, Onward, Goes, Went, count_of, Walked}

module _ (f : ℕ → Symbol) (R : ℕ) (s js : List ℕ) where
  abbrev by_head : ℕ → List Gap → ℕ → ℕ → Node → ℕ → Bool → Option (List Node)
  by_head left gs k d x b t =
      elim t as (λ u. Option (List Node)) [ true ↦ behind_pairs js d (closes_at (suc d) js b) x (nodes_from f R s left js (gaps_behind gs x) (suc k)) | false ↦ none ]

  -- a head that is not there
  no-head : (left : ℕ) (gs : List Gap) (k d at : ℕ) → length js < (head_at f R s js d at).place → nodes_from f R s (suc left) js gs k d at ≡ none
  unfolding nodes_from
  no-head left gs k d at h =
      ap (λ (t : Bool). by_head left gs k d (head_at f R s js d at).node (head_at f R s js d at).place (t && admits R gs k (head_at f R s js d at).node))
      (lt-leb (head_at f R s js d at).place (length js) h)

  fades : (left : ℕ) (gs : List Gap) (k : ℕ) → Fades js (nodes_from f R s left js gs k)
  unfolding nodes_from
  fades zero gs k d at h = refl
  fades (suc left) gs k d at h = no-head left gs k d at (past-head f R s js d at h)

  -- what goes on past the text's end comes to no list
  onwards : (d at : ℕ) (o : Maybe Then) → Onward js d at o → (x : Node) (g : ℕ → ℕ → Option (List Node)) → Fades js g → behind_pairs js d (closes_at (suc d) js at) x g ≡ goes_on o x g
  onwards d at None h x g z = ⊎_elim (λ w. w x g) (λ w. w.1 x g ∙ ap (cons_to x) (z _ _ w.0)) h.said
  onwards d at (Some t) h x g z = h.said x g

  abbrev NoList : List ℕ → ℕ → ℕ → ℕ → ℕ → Type 0
  NoList old depths k d at = (gs : List Gap) → length gs ≡ depths → Gapped gs old → (left : ℕ) → nodes_from f R s (suc left) js gs k d at ≡ none

  pub turned-past : (old : List ℕ) (depths k d at : ℕ) → ((e : ℕ) → length js < (head_at f R s js e at).place) → NoList old depths k d at
  turned-past old depths k d at h gs i g left = no-head left gs k d at (h d)

-- ── one node: r from p to q, read up to place a ──
module _ (f : ℕ → Symbol) (R : ℕ) (s js : List ℕ) (k d at r p q a : ℕ) (h : Headed f R s js at r p q a) where
  by-test : (gs : List Gap) (left : ℕ) (t : Bool) → (leb a (length js) && admits R gs k (nd r p q d)) ≡ t
      → nodes_from f R s (suc left) js gs k d at ≡ by_head f R s js left gs k d (nd r p q d) a t
  unfolding nodes_from
  by-test gs left t e =
      ap (λ (x : Node). by_head f R s js left gs k d x (head_at f R s js d at).place (leb (head_at f R s js d at).place (length js) && admits R gs k x)) (h.node d)
      ∙ ap (λ (b : ℕ). by_head f R s js left gs k d (nd r p q d) b (leb b (length js) && admits R gs k (nd r p q d))) (h.place d)
      ∙ ap (by_head f R s js left gs k d (nd r p q d) a) e

  let-in : (gs : List Gap) (left : ℕ) {o : Maybe Then} → a ≤ length js → admits R gs k (nd r p q d) ≡ true → Onward js d a o
      → nodes_from f R s (suc left) js gs k d at ≡ goes_on o (nd r p q d) (nodes_from f R s left js (gaps_behind gs (nd r p q d)) (suc k))
  let-in gs left l e o = by-test gs left true (rw (le-leb a (length js) l, e)) ∙ onwards f R s js d a _ o (nd r p q d) _ (fades f R s js left (gaps_behind gs (nd r p q d)) (suc k))

  module _ (depths : ℕ) (old new : List ℕ) (b : Bool) (l : a ≤ length js) (m : Admitted R k (nd r p q d) depths old new b) where
    pub turned-out : b ≡ false → NoList f R s js old depths k d at
    turned-out e gs i g left = by-test gs left false (rw (le-leb a (length js) l, sym (m.answer gs i g) ∙ e))

    pub turned-off : b ≡ true → Onward js d a None → NoList f R s js old depths k d at
    turned-off e o gs i g left = let-in gs left l (sym (m.answer gs i g) ∙ e) o

    pub turned_on : {o : Then} → b ≡ true → Onward js d a (Some o) → Went f R s js old new depths k d at (nd r p q d) o
    turned_on e o = record {
      goes = λ gs i g. record {
        said = λ left. let-in gs left l (sym (m.answer gs i g) ∙ e) o;
        gapped = m.opens gs i g e;
        depths = gaps_behind-length R gs k (nd r p q d) (sym (m.answer gs i g) ∙ e);
        deep = (admits-parts R gs k (nd r p q d) (sym (m.answer gs i g) ∙ e)).high;
      };
      depth = refl;
      known = h.known;
      starts = h.starts;
      ends = h.ends;
      low = o.low;
    }

-- ── the nodes before, and those that follow ──
unfoldable pub onto : List Node → Option (List Node) → Option (List Node)
onto [] o = o
onto (x ∷ xs) o = cons_to x (onto xs o)

onto-none : (xs : List Node) → onto xs none ≡ none
unfolding onto
onto-none [] = refl
onto-none (x ∷ xs) = ap (cons_to x) (onto-none xs)

onto-some : (xs ns : List Node) → onto xs (some ns) ≡ some (xs ++ ns)
unfolding onto
onto-some [] ns = refl
onto-some (x ∷ xs) ns = ap (cons_to x) (onto-some xs ns)

onto-more : (xs : List Node) (x : Node) (o : Option (List Node)) → onto xs (cons_to x o) ≡ onto (xs ++ (x ∷ [])) o
unfolding onto
onto-more [] x o = refl
onto-more (y ∷ xs) x o = ap (cons_to y) (onto-more xs x o)

written-more : (ws : List ℕ) (k : ℕ) (xs : List Node) (x : Node) → written ws k (xs ++ (x ∷ [])) ≡ put_node (written ws k xs) (k + length xs) x
unfolding written
written-more ws k [] x = let e : k ≡ k + 0 = omega arith in ap (λ (n : ℕ). put_node ws n x) e
written-more ws k (y ∷ xs) x =
    let e : suc k + length xs ≡ k + suc (length xs) = omega arith in
    written-more (put_node ws k y) (suc k) xs x ∙ ap (λ (n : ℕ). put_node (written (put_node ws k y) (suc k) xs) n x) e

-- past the end of the words nothing is written
sets-past : (vs ws : List ℕ) (i : ℕ) → length ws ≤ i → sets ws i vs ≡ ws
sets-past [] ws i h = refl
sets-past (v ∷ vs) ws i h = ap (λ (l : List ℕ). sets l (suc i) vs) (set_out ws i v h) ∙ sets-past vs ws (suc i) (omega arith)

pub kept-past : (ws : List ℕ) (k : ℕ) (x : Node) → length ws ≤ 4 * k → ws ≡ put_node ws k x
unfolding put_node node_words
kept-past ws k x h = sym (sets-past (in_words x) ws (4 * k) h)

-- where the walk stands before a node: `before` are those that were read
pub record Walking (f : ℕ → Symbol) (R : ℕ) (s js : List ℕ) (o : Option (List Node)) (old new gaps : List ℕ) (left depths k d at : ℕ) : Type 0 where
  pub gs : List Gap
  pub gapped : Gapped gs gaps
  pub long : length gs ≡ depths
  pub deep : d ≤ 256
  pub sum : k + left ≡ length js
  pub before : List Node
  pub many : length before ≡ k
  pub whole : o ≡ onto before (nodes_from f R s left js gs k d at)
  pub words : new ≡ written old 0 before

-- the first node: the root lies in the input
root-gap : (n : ℕ) → Gapped (whole n) (set (replicate 514 0) 1 n)
root-gap n = record { from = first; to = last }
  where
    first : (d : ℕ) → d < 1 → get_or (set (replicate 514 0) 1 n) (2 * d) 0 ≡ (gap_at (whole n) d).from
    first zero h = refl
    first (suc d) h = absurd (omega arith)

    last : (d : ℕ) → d < 1 → get_or (set (replicate 514 0) 1 n) (2 * d + 1) 0 ≡ (gap_at (whole n) d).to
    last zero h = refl
    last (suc d) h = absurd (omega arith)

pub walk_start : (f : ℕ → Symbol) (R : ℕ) (s js old gaps : List ℕ) → gaps ≡ set (replicate 514 0) 1 (length s)
    → Walking f R s js (parsed f R s js) old old gaps (length js - 0) 1 0 0 0
unfolding parsed onto written
walk_start f R s js old gaps e = let z : length js ≡ length js - 0 = omega arith in record {
  gs = whole (length s);
  gapped = subst (λ (l : List ℕ). Gapped (whole (length s)) l) (sym e) (root-gap (length s));
  long = refl;
  deep = omega arith;
  sum = omega arith;
  before = [];
  many = refl;
  whole = ap (λ (n : ℕ). nodes_from f R s n js (whole (length s)) 0 0 0) z;
  words = refl;
}

-- ── from one node to the next ──
module _ {f : ℕ → Symbol} {R : ℕ} {s js : List ℕ} {o : Option (List Node)} {old new gaps : List ℕ} {left depths k d at : ℕ}
    (w : Walking f R s js o old new gaps left depths k d at) (l : 0 < left) where
  next : o ≡ onto w.before (nodes_from f R s (suc (left - 1)) js w.gs k d at)
  next = let e : left ≡ suc (left - 1) = omega arith in w.whole ∙ ap (λ (n : ℕ). onto w.before (nodes_from f R s n js w.gs k d at)) e

  -- no list can come of it
  pub walk_none : NoList f R s js gaps depths k d at → Walked o old new None
  walk_none h =
      let z : o ≡ none = next ∙ ap (onto w.before) (h w.gs w.long w.gapped (left - 1)) ∙ onto-none w.before in
      record { count = sym (ap count_of z); words = λ ns i. absurd (some-none ns (sym i ∙ z)) }

  module _ {gaps' : List ℕ} {x : Node} {t : Then} (n : Went f R s js gaps gaps' depths k d at x t) (new' : List ℕ) (put : new' ≡ put_node new k x) where
    one : Goes f R s js w.gs gaps' k d at x t
    one = n.goes w.gs w.long w.gapped

    said : {u : Then} → t ≡ u → o ≡ onto w.before (goes_on (Some u) x (nodes_from f R s (left - 1) js (gaps_behind w.gs x) (suc k)))
    said e =
        next ∙ ap (onto w.before) (one.said (left - 1))
        ∙ ap (λ (u : Then). onto w.before (goes_on (Some u) x (nodes_from f R s (left - 1) js (gaps_behind w.gs x) (suc k)))) e

    stored : new' ≡ written old 0 (w.before ++ (x ∷ []))
    stored =
        let z : k ≡ 0 + length w.before = omega (arith, w.many) in
        put ∙ ap (λ (v : List ℕ). put_node v k x) w.words ∙ ap (λ (i : ℕ). put_node (written old 0 w.before) i x) z ∙ sym (written-more old 0 w.before x)

    -- the node was the last
    pub walk-last : t ≡ Last → Walked o old new' (Some (k + 1))
    walk-last e =
        let i : o ≡ some (w.before ++ (x ∷ [])) = said e ∙ onto-some w.before (x ∷ []) in
        let c : length (w.before ++ (x ∷ [])) ≡ k + 1 = length-append w.before (x ∷ []) ∙ ap (λ (m : ℕ). m + 1) w.many in
        record {
          count = sym (ap count_of i ∙ ap (λ (m : ℕ). Some m) c);
          words = λ ns j. stored ∙ ap (λ (v : Option (List Node)). written old 0 (list_or v)) (sym i ∙ j);
        }
      where
        list_or : Option (List Node) → List Node
        list_or none = []
        list_or (some ns) = ns

    -- others follow
    pub walk_more : {e a : ℕ} → t ≡ More e a → Walking f R s js o old new' gaps' (left - 1) (x.depth + 2) (k + 1) e a
    walk_more {e} {a} h =
        let c : suc k ≡ k + 1 = omega arith in
        let low : e ≤ d + 1 = subst (λ (u : Then). Low d (Some u)) h n.low in
        let deep : d ≤ 255 = unfold depth_bound in one.deep in
        record {
          gs = gaps_behind w.gs x;
          gapped = one.gapped;
          long = one.depths ∙ ap (λ (m : ℕ). m + 2) (sym n.depth);
          deep = omega (arith, low, deep);
          sum = omega (arith, w.sum, l);
          before = w.before ++ (x ∷ []);
          many = length-append w.before (x ∷ []) ∙ omega (arith, w.many);
          whole = said h ∙ onto-more w.before x _ ∙ ap (λ (j : ℕ). onto (w.before ++ (x ∷ [])) (nodes_from f R s (left - 1) js (gaps_behind w.gs x) j e a)) c;
          words = stored;
        }

-- the text is at its end before the list is
pub walk-over : {f : ℕ → Symbol} {R : ℕ} {s js : List ℕ} {o : Option (List Node)} {old new gaps : List ℕ} {left depths k d at : ℕ}
    → Walking f R s js o old new gaps left depths k d at → left ≡ 0 → Walked o old new None
unfolding nodes_from
walk-over {f} {R} {s} {js} {o} {old} {new} {gaps} {left} {depths} {k} {d} {at} w z =
    let i : o ≡ none = w.whole ∙ ap (λ (n : ℕ). onto w.before (nodes_from f R s n js w.gs k d at)) z ∙ onto-none w.before in
    record { count = sym (ap count_of i); words = λ ns j. absurd (some-none ns (sym j ∙ i)) }
