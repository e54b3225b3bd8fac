-- A node's head part by part, and closing pairs, as code reads them. Assumes nothing.
use Rattle.std.specs.Prelude.{ℕ, suc, ◌+◌, ◌-◌, ◌≤◌, ◌<◌, ◌≡◌, Bool, cond, List, [], ◌∷◌, eqb, leb, length, take, drop, Some, None}
use Rattle.std.proofs.Math.Path.{sym, ap}
use Rattle.std.proofs.Common.{◌∙◌, subst, inl, inr, arith, add-one, le-leb, eq-eqb, ne_eqb}
use Rattle.std.proofs.Math.Bool.{true, false}
use Rattle.std.proofs.Math.Option.{Option, none, some}
use Rattle.std.proofs.lemmas.Bool.{lt-leb}
use Rattle.read_tokens.specs.Token.{Symbol}
use Rattle.match_meaning.specs.Meaning.{Node}
use Rattle.tree_json.specs.Json.{chars_json, before_name, before_start, before_end, before_text, before_children, behind_children, comma}
use Rattle.tree_json.specs.Reading.{ate, Took, took, named_at, number_at, closes_at, cons_to, head_at, next_at}
use Rattle.tree_read.specs.declared.heads.Then.TheVariants.{Last, More}
use Rattle.tree_read.specs.laws.Eaten.{gone}
use Rattle.tree_read.specs.laws.Names.{named-gone}
use Rattle.tree_read.specs.laws.Numbers.{number-gone}
use Rattle.tree_read.specs.steps.Walks.{Headed, behind_pairs, Onward}

-- ── the head: each part is read behind the one before ──
module _ (f : ℕ → Symbol) (R : ℕ) (s js : List ℕ) (at a r b p c q e g x y z o : ℕ) where
  pub headed : a ≡ ate before_name js at → (r ≡ (named_at f R 0 js a).value) × (x ≡ (named_at f R 0 js a).place) × (r ≤ R)
      → b ≡ ate before_start js x → (p ≡ (number_at js b).value) × (y ≡ (number_at js b).place) × (p < 100000)
      → c ≡ ate before_end js y → (q ≡ (number_at js c).value) × (z ≡ (number_at js c).place) × (q < 100000)
      → e ≡ ate before_text js z → g ≡ ate (chars_json (take (q - p) (drop p s))) js e → o ≡ ate before_children js g
      → Headed f R s js at r p q o
  unfolding head_at
  headed i j k l m n u v w = record {
    node = λ d. rw (← i, ← j.0, ← j.1, ← k, ← l.0, ← l.1, ← m, ← n.0);
    place = λ d. rw (← i, ← j.1, ← k, ← l.0, ← l.1, ← m, ← n.0, ← n.1, ← u, ← v, ← w);
    known = j.2;
    starts = l.2;
    ends = n.2;
  }

-- or one of them does not stand there
module _ (f : ℕ → Symbol) (R : ℕ) (s js : List ℕ) (d at : ℕ) where
  abbrev name : Took
  name = named_at f R 0 js (ate before_name js at)

  abbrev start : Took
  start = number_at js (ate before_start js name.place)

  abbrev end : Took
  end = number_at js (ate before_end js start.place)

  abbrev chars : List ℕ
  chars = chars_json (take (end.value - start.value) (drop start.value s))

  abbrev text : ℕ
  text = ate before_text js end.place

  abbrev Past : Type 0
  Past = length js < (head_at f R s js d at).place

  pub no_children : length js < ate before_children js (ate chars js text) → Past
  unfolding head_at
  no_children h = h

  pub no_chars : length js < ate chars js text → Past
  no_chars h = no_children (gone js before_children (ate chars js text) h)

  pub no_text : length js < text → Past
  no_text h = no_chars (gone js chars text h)

  pub no_end : length js < end.place → Past
  no_end h = no_text (gone js before_text end.place h)

  pub before_no_end : length js < ate before_end js start.place → Past
  before_no_end h = no_end (number-gone js (ate before_end js start.place) h)

  pub no_start : length js < start.place → Past
  no_start h = before_no_end (gone js before_end start.place h)

  pub before_no_start : length js < ate before_start js name.place → Past
  before_no_start h = no_start (number-gone js (ate before_start js name.place) h)

  pub no_name : length js < name.place → Past
  no_name h = before_no_start (gone js before_start name.place h)

  pub before_no_name : length js < ate before_name js at → Past
  before_no_name h = no_name (named-gone f js (ate before_name js at) R 0 h)

  pub past-head : length js < at → Past
  past-head h = before_no_name (gone js before_name at h)

-- ── closing pairs, c at most: n are closed, up to place a ──
pub record Closing (js : List ℕ) (c at n a : ℕ) : Type 0 where
  pub few : n ≤ c
  pub value : (closes_at c js at).value ≡ n + (closes_at (c - n) js a).value
  pub place : (closes_at c js at).place ≡ (closes_at (c - n) js a).place

module _ (js : List ℕ) (c at : ℕ) where
  pub closing-start : Closing js c at 0 at
  closing-start = let e : c - 0 ≡ c = omega arith in record {
    few = omega arith;
    value = rw e (omega arith);
    place = rw e;
  }

  module _ (n a : ℕ) (h : Closing js c at n a) where
    over : c - n ≡ 0 → (n ≡ (closes_at c js at).value) × (a ≡ (closes_at c js at).place) × (n ≤ c)
    unfolding closes_at
    over e = (
      sym (h.value ∙ ap (λ (m : ℕ). n + (closes_at m js a).value) e ∙ omega arith),
      sym (h.place ∙ ap (λ (m : ℕ). (closes_at m js a).place) e),
      h.few,
    )

    pub closing-all : c ≤ n → (n ≡ (closes_at c js at).value) × (a ≡ (closes_at c js at).place) × (n ≤ c)
    closing-all l = over (omega arith)

    module _ (b : ℕ) (e : b ≡ ate behind_children js a) (l : n < c) where
      left : c - n ≡ suc (c - (n + 1))
      left = omega arith

      by-test : (k : ℕ) (t : Bool) → leb b (length js) ≡ t
          → closes_at (suc k) js a ≡ elim t as (λ x. Took) [ true ↦ took (suc (closes_at k js b).value) (closes_at k js b).place | false ↦ took 0 a ]
      unfolding closes_at
      by-test k t g =
          sym (ap (λ (m : ℕ). elim (leb m (length js)) as (λ x. Took) [ true ↦ took (suc (closes_at k js m).value) (closes_at k js m).place | false ↦ took 0 a ]) e)
          ∙ ap (λ (u : Bool). elim u as (λ x. Took) [ true ↦ took (suc (closes_at k js b).value) (closes_at k js b).place | false ↦ took 0 a ]) g

      none_left : length js < b → (k : ℕ) → closes_at (suc k) js a ≡ took 0 a
      none_left g k = by-test k false (lt-leb b (length js) g)

      one_more : b ≤ length js → (k : ℕ) → closes_at (suc k) js a ≡ took (suc (closes_at k js b).value) (closes_at k js b).place
      one_more g k = by-test k true (le-leb b (length js) g)

      pub closing-ends : length js < b → (n ≡ (closes_at c js at).value) × (a ≡ (closes_at c js at).place) × (n ≤ c)
      closing-ends g = (
        sym (h.value ∙ ap (λ (m : ℕ). n + (closes_at m js a).value) left ∙ ap (λ (t : Took). n + t.value) (none_left g (c - (n + 1))) ∙ omega arith),
        sym (h.place ∙ ap (λ (m : ℕ). (closes_at m js a).place) left ∙ ap (λ (t : Took). t.place) (none_left g (c - (n + 1)))),
        h.few,
      )

      pub closing-more : b ≤ length js → Closing js c at (n + 1) b
      closing-more g = record {
        few = omega arith;
        value = h.value ∙ ap (λ (m : ℕ). n + (closes_at m js a).value) left ∙ ap (λ (t : Took). n + t.value) (one_more g (c - (n + 1))) ∙ omega arith;
        place = h.place ∙ ap (λ (m : ℕ). (closes_at m js a).place) left ∙ ap (λ (t : Took). t.place) (one_more g (c - (n + 1)));
      }

-- ── how it goes on behind them ──
module _ (js : List ℕ) (d at n a : ℕ) (v : n ≡ (closes_at (d + 1) js at).value) (w : a ≡ (closes_at (d + 1) js at).place) where
  e : n ≡ (closes_at (suc d) js at).value
  e = v ∙ ap (λ (m : ℕ). (closes_at m js at).value) (add-one d)

  i : a ≡ (closes_at (suc d) js at).place
  i = w ∙ ap (λ (m : ℕ). (closes_at m js at).place) (add-one d)

  module _ (x : Node) (g : ℕ → ℕ → Option (List Node)) where
    by-pairs : (t : Bool) → eqb n (suc d) ≡ t → behind_pairs js d (closes_at (suc d) js at) x g
        ≡ elim t as (λ u. Option (List Node)) [ true ↦ cond (eqb a (length js)) (some (x ∷ [])) none | false ↦ cons_to x (g (suc d - n) (next_at js (took n a))) ]
    by-pairs t h =
        sym (ap (λ (v : ℕ). behind_pairs js d (took v a) x g) e ∙ ap (λ (v : ℕ). behind_pairs js d (took (closes_at (suc d) js at).value v) x g) i)
        ∙ ap (λ (u : Bool). elim u as (λ w. Option (List Node)) [ true ↦ cond (eqb a (length js)) (some (x ∷ [])) none | false ↦ cons_to x (g (suc d - n) (next_at js (took n a))) ]) h

    whole-read : n ≡ suc d → a ≡ length js → behind_pairs js d (closes_at (suc d) js at) x g ≡ some (x ∷ [])
    whole-read h l = by-pairs true (eq-eqb n (suc d) h) ∙ rw (eq-eqb a (length js) l)

    more-behind : n ≡ suc d → (a ≡ length js → ⊥) → behind_pairs js d (closes_at (suc d) js at) x g ≡ none
    more-behind h l = by-pairs true (eq-eqb n (suc d) h) ∙ rw (ne_eqb a (length js) l)

    child : (n ≡ suc d → ⊥) → n ≡ 0 → behind_pairs js d (closes_at (suc d) js at) x g ≡ cons_to x (g (suc d - n) a)
    child h l = by-pairs false (ne_eqb n (suc d) h) ∙ rw (eq-eqb n 0 l)

    sibling : (n ≡ suc d → ⊥) → (n ≡ 0 → ⊥) → behind_pairs js d (closes_at (suc d) js at) x g ≡ cons_to x (g (suc d - n) (ate comma js a))
    sibling h l = by-pairs false (ne_eqb n (suc d) h) ∙ rw (ne_eqb n 0 l)

    going : (n ≡ suc d → ⊥) → behind_pairs js d (closes_at (suc d) js at) x g
        ≡ cons_to x (g (suc d - (closes_at (suc d) js at).value) (next_at js (closes_at (suc d) js at)))
    going h = let c = closes_at (suc d) js at in
        ap (λ (u : Bool). elim u as (λ w. Option (List Node)) [ true ↦ cond (eqb c.place (length js)) (some (x ∷ [])) none | false ↦ cons_to x (g (suc d - c.value) (next_at js c)) ])
        (ne_eqb c.value (suc d) (λ z. h (e ∙ z)))

  pub on-last : n ≡ d + 1 → a ≡ length js → Onward js d at (Some Last)
  on-last h l = record { said = λ x g. whole-read x g (h ∙ add-one d) l; low = tt }

  pub on_none : n ≡ d + 1 → (a ≡ length js → ⊥) → Onward js d at None
  on_none h l = record { said = inl (λ x g. more-behind x g (h ∙ add-one d) l); low = tt }

  module _ (h : n ≡ d + 1 → ⊥) where
    unlike : n ≡ suc d → ⊥
    unlike l = h (l ∙ sym (add-one d))

    pub on-child : n ≡ 0 → Onward js d at (Some (More (d + 1) a))
    on-child l = let z : suc d - n ≡ d + 1 = omega arith in record {
      said = λ x g. child x g unlike l ∙ ap (λ (m : ℕ). cons_to x (g m a)) z;
      low = omega arith;
    }

    pub on-sibling : (b : ℕ) → b ≡ ate comma js a → (n ≡ 0 → ⊥) → Onward js d at (Some (More (d + 1 - n) b))
    on-sibling b r l = let z : suc d - n ≡ d + 1 - n = omega arith in record {
      said = λ x g. sibling x g unlike l ∙ ap (λ (m : ℕ). cons_to x (g m (ate comma js a))) z ∙ ap (λ (m : ℕ). cons_to x (g (d + 1 - n) m)) (sym r);
      low = omega arith;
    }

    pub no-sibling : length js < ate comma js a → (n ≡ 0 → ⊥) → Onward js d at None
    no-sibling p l =
        let c = closes_at (suc d) js at in
        let b : ate comma js a ≡ next_at js c = ap (ate comma js) i ∙ sym (ap (λ (t : Bool). cond t c.place (ate comma js c.place)) (ne_eqb c.value 0 (λ z. l (e ∙ z)))) in
        record { said = inr (subst (λ (m : ℕ). length js < m) b p, λ x g. going x g unlike); low = tt }
