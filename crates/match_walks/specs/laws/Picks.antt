-- The alternative of a choice that is taken. Assumes nothing.
use Rattle.std.specs.Prelude.{ℕ, ◌≤◌, ◌<◌, ◌≡◌, ◌⊎◌, List, Option, None, Some}
use Rattle.std.proofs.Math.Path.{refl, ap, sym as flip}
use Rattle.std.proofs.Common.{◌∙◌, arith}
use Rattle.std.proofs.Math.Logic.{inl, inr}
use Rattle.grammar.specs.Exp.{Exp, alt}
use Rattle.match_meaning.specs.Meaning.{Node}
use Rattle.match_eval.specs.Eval.{ev}
use Rattle.match_list.specs.Nodes.{walk_of}
use Rattle.match_eval.proofs.laws.EvalSteps.{alt-left, alt-right}
use Rattle.match_list.proofs.laws.NodeSteps.{alt-left as List-left, alt-right as List-right}
use Rattle.grammar_table.specs.Trees.{tree_of}
use Rattle.match_desk.specs.steps.Parts.{shape, Made}
use Rattle.match_desk.specs.laws.Parts.{shaped}
use Rattle.match_walks.specs.steps.Picks.{StandsFor, Picked, Chosen}
use Rattle.match_walks.specs.laws.Waits.{choice-left, choice-right}

module _ (t s cs : List ℕ) (n x p : ℕ) where
  -- x itself
  pub pick-whole : (ev s cs n (tree_of t x) p ≡ 0 → ⊥) → StandsFor t s cs n x p x
  pick-whole f = record { small = omega arith; works = f; takes = refl; lists = λ w. refl; up = λ k m d a b c. refl }

  -- a choice
  module _ (k l y z : ℕ) (made : Made t x k l y z) (is : k ≡ 3) where
    choice : alt (tree_of t y) (tree_of t z) ≡ tree_of t x
    unfolding shape
    choice = shaped t x k l y z 3 made is

    takes-is : ev s cs n (alt (tree_of t y) (tree_of t z)) p ≡ ev s cs n (tree_of t x) p
    takes-is = ap (λ (e : Exp ℕ). ev s cs n e p) choice

    lists-is : (w : ℕ → ℕ → List Node) → walk_of s (λ e i. ev s cs n e i) w (alt (tree_of t y) (tree_of t z)) p ≡ walk_of s (λ e i. ev s cs n e i) w (tree_of t x) p
    lists-is w = ap (λ (e : Exp ℕ). walk_of s (λ e i. ev s cs n e i) w e p) choice

    pub pick_first : (a : ℕ) → StandsFor t s cs n y p a → StandsFor t s cs n x p a
    unfolding ev walk_of
    pick_first a h =
        let g : ev s cs n (tree_of t y) p ≡ 0 → ⊥ = λ o. h.works (h.takes ∙ o) in
        record {
          small = omega (arith, h.small, made.left);
          works = h.works;
          takes = h.takes ∙ alt-left (ev s cs n (tree_of t y) p) (λ m. ev s cs n (tree_of t z) p) (ev s cs n (tree_of t y) p) refl g ∙ takes-is;
          lists = λ w.
              h.lists w ∙ List-left (ev s cs n (tree_of t y) p) (walk_of s (λ e i. ev s cs n e i) w (tree_of t y) p) (walk_of s (λ e i. ev s cs n e i) w (tree_of t z) p) (ev s cs n
              (tree_of t y) p) refl g
              ∙ lists-is w;
          up = λ b m d desk few known. h.up b m d desk few (omega (arith, known, made.left)) ∙ choice-left t b m desk few x k l y z d made known is;
        }

    pub pick_second : (b : Option ℕ) → ev s cs n (tree_of t y) p ≡ 0 → Picked t s cs n z p b → Picked t s cs n x p b
    unfolding ev walk_of
    pick_second None g h =
        flip (alt-right (ev s cs n (tree_of t y) p) (λ m. ev s cs n (tree_of t z) p) (ev s cs n (tree_of t y) p) (ev s cs n (tree_of t z) p) refl g refl ∙ takes-is) ∙ h
    pick_second (Some b) g h =
        record {
          small = omega (arith, h.small, made.right);
          works = h.works;
          takes = h.takes ∙ alt-right (ev s cs n (tree_of t y) p) (λ m. ev s cs n (tree_of t z) p) (ev s cs n (tree_of t y) p) (ev s cs n (tree_of t z) p) refl g refl ∙ takes-is;
          lists = λ w.
              h.lists w ∙ List-right (ev s cs n (tree_of t y) p) (walk_of s (λ e i. ev s cs n e i) w (tree_of t y) p) (walk_of s (λ e i. ev s cs n e i) w (tree_of t z) p) (ev s cs n
              (tree_of t y) p) refl g
              ∙ lists-is w;
          up = λ c m d desk few known. h.up c m d desk few (omega (arith, known, made.right)) ∙ choice-right t c m desk few x k l y z d made known is;
        }

-- a choice by its parts
module _ (t s cs : List ℕ) (n y z p : ℕ) where
  pub choose-first : (a : ℕ) → StandsFor t s cs n y p a → Chosen t s cs n y z p a
  unfolding ev walk_of
  choose-first a h =
      let g : ev s cs n (tree_of t y) p ≡ 0 → ⊥ = λ o. h.works (h.takes ∙ o) in
      record {
        small = λ i. inl h.small;
        takes = λ i. h.takes ∙ alt-left (ev s cs n (tree_of t y) p) (λ m. ev s cs n (tree_of t z) p) (ev s cs n (tree_of t y) p) refl g;
        lists = λ i w.
            h.lists w ∙ List-left (ev s cs n (tree_of t y) p) (walk_of s (λ e i. ev s cs n e i) w (tree_of t y) p) (walk_of s (λ e i. ev s cs n e i) w (tree_of t z) p) (ev s cs n (tree_of t y) p) refl g;
        up = λ i k m d l desk few c e u v. h.up k m d desk few c ∙ u;
      }

  -- the second part fails, so that the first matches where one does
  pub choose-left : ev s cs n (tree_of t z) p ≡ 0 → Chosen t s cs n y z p y
  unfolding ev walk_of
  choose-left e = record {
    small = λ f. inl (omega arith);
    takes = λ f. alt-left (ev s cs n (tree_of t y) p) (λ m. ev s cs n (tree_of t z) p) (ev s cs n (tree_of t y) p) refl (some f);
    lists = λ f w.
        List-left (ev s cs n (tree_of t y) p) (walk_of s (λ e i. ev s cs n e i) w (tree_of t y) p) (walk_of s (λ e i. ev s cs n e i) w (tree_of t z) p) (ev s cs n (tree_of t y) p) refl (some f);
    up = λ f k m d l desk few c e u v. u;
  }
    where
      some : (ev s cs n (alt (tree_of t y) (tree_of t z)) p ≡ 0 → ⊥) → ev s cs n (tree_of t y) p ≡ 0 → ⊥
      some f g = f (flip (alt-right (ev s cs n (tree_of t y) p) (λ m. ev s cs n (tree_of t z) p) (ev s cs n (tree_of t y) p) (ev s cs n (tree_of t z) p) refl g refl) ∙ e)

  -- the first part fails
  pub choose-right : ev s cs n (tree_of t y) p ≡ 0 → Chosen t s cs n y z p z
  unfolding ev walk_of
  choose-right g = record {
    small = λ f. inr (omega arith);
    takes = λ f. alt-right (ev s cs n (tree_of t y) p) (λ m. ev s cs n (tree_of t z) p) (ev s cs n (tree_of t y) p) (ev s cs n (tree_of t z) p) refl g refl;
    lists = λ f w.
        List-right (ev s cs n (tree_of t y) p) (walk_of s (λ e i. ev s cs n e i) w (tree_of t y) p) (walk_of s (λ e i. ev s cs n e i) w (tree_of t z) p) (ev s cs n (tree_of t y) p) refl g;
    up = λ f k m d l desk few c e u v. v;
  }

  -- what stands for it is a choice itself, and something stands for that
  pub choose-on : (x k l a b r : ℕ) → Chosen t s cs n y z p x → Made t x k l a b → k ≡ 3 → Chosen t s cs n a b p r → (r ≤ a) ⊎ (r ≤ b) → Chosen t s cs n y z p r
  unfolding shape
  choose-on x k l a b r i made is j less =
      let c : alt (tree_of t a) (tree_of t b) ≡ tree_of t x = shaped t x k l a b 3 made is in
      let q : ev s cs n (alt (tree_of t a) (tree_of t b)) p ≡ ev s cs n (tree_of t x) p = ap (λ (e : Exp ℕ). ev s cs n e p) c in
      let some : (ev s cs n (alt (tree_of t y) (tree_of t z)) p ≡ 0 → ⊥) → ev s cs n (alt (tree_of t a) (tree_of t b)) p ≡ 0 → ⊥ = λ f g. f (flip (i.takes f) ∙ flip q ∙ g) in
      let below : r < x = elim less [ inl h ↦ omega (arith, h, made.left) | inr h ↦ omega (arith, h, made.right) ] in
      record {
        small = λ f. elim (i.small f) [ inl h ↦ inl (omega (arith, h, below)) | inr h ↦ inr (omega (arith, h, below)) ];
        takes = λ f. j.takes (some f) ∙ q ∙ i.takes f;
        lists = λ f w. j.lists (some f) w ∙ ap (λ (e : Exp ℕ). walk_of s (λ e i. ev s cs n e i) w e p) c ∙ i.lists f w;
        up = λ f d m e g desk few u v o h.
            let known : x ≤ m = elim (i.small f) [ inl h ↦ omega (arith, h, u) | inr h ↦ omega (arith, h, v) ] in
            j.up (some f) d m e g desk few (omega (arith, made.left, known)) (omega (arith, made.right, known))
            (choice-left t d m desk few x k l a b e made known is ∙ i.up f d m e g desk few u v o h)
            (choice-right t d m desk few x k l a b e made known is ∙ i.up f d m e g desk few u v o h);
      }
