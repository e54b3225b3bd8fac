-- What walking an expression comes to, and what comes behind one that is done: by the words that code has read. Assumes nothing.
use Rattle.std.specs.Prelude.{ℕ, ◌+◌, ◌-◌, ◌≤◌, ◌<◌, ◌≡◌, refl, ◌⊎◌, List, [], ◌∷◌, ◌++◌, length}
use Rattle.std.proofs.Common.{ap, ◌∙◌, sym as flip, inl, inr, append_assoc, eq-or-lt_of_le}
use native.Mathlib.Omega.{arith}
use Rattle.grammar_table.specs.Table.{expression_count}
use Rattle.grammar_table.specs.Trees.{tree_of}
use Rattle.match_walks.specs.steps.Tasks.{Task, walk, again, enter, takes, Step, Moves}
use Rattle.match_desk.specs.steps.Desk.{parent_of, Silent, Desk}
use Rattle.match_walks.specs.steps.Waits.{going, waiting, tasks_of, climb}
use Rattle.match_desk.specs.steps.Parts.{Made}
use Rattle.match_walks.specs.steps.Picks.{Chosen}
use Rattle.match_walks.specs.steps.Walks.{Walkable, Walked, Risen}
use Rattle.match_walks.specs.laws.Steps.{step-moves, moves-same, moves-on, moves-less}
use Rattle.match_walks.specs.laws.Walks.{step-symbol, step-seq, step-choice, step-skips, step-takes, step-plus, step-silent, star-ends, star-more, again-ends, again-more}
use Rattle.match_desk.specs.laws.Desks.{parent_above}
use Rattle.match_walks.specs.laws.Waits.{going-top, seq-left, seq-right, choice-left, choice-right, option-part, star-part, plus-part, up_left, up_right, up-star, up-plus, up-other}

module _ (t s cs : List ℕ) (n : ℕ) (k : List ℕ) (x p : ℕ) where
  -- x is done, y is to be walked with more behind it, or a symbol is to be entered
  walked-done : (q : ℕ) → x < 4294967296 → ((d : ℕ) → Step t s cs n (walk x d) p [] q) → Walked t s cs n k x p 1 x q
  walked-done q l h =
      record {
        few = λ f. omega arith;
        on = λ f d. step-moves t s cs n (walk x d) p q [] (going t k d x ++ waiting t k d) (h d);
        known = λ e. absurd (omega (arith, e));
        small = l;
        enters = λ e. absurd (omega (arith, e));
      }

  walked_on : (y : ℕ) (low : ℕ → List Task) → y ≤ expression_count t → y < 4294967296 → ((d : ℕ) → Step t s cs n (walk x d) p (walk y d ∷ low d) p)
      → ((d : ℕ) → going t k d y ≡ low d ++ going t k d x) → Walked t s cs n k x p 2 y p
  walked_on y low l u h g =
      record {
        few = λ f. omega arith;
        on = λ f d.
            moves-on t s cs n (tasks_of t k 2 d x) ((walk y d ∷ low d) ++ (going t k d x ++ waiting t k d)) (tasks_of t k 2 d y) p p p 1
            (step-moves t s cs n (walk x d) p p (walk y d ∷ low d) (going t k d x ++ waiting t k d) (h d))
            (ap (λ (zs : List Task). walk y d ∷ zs) (ap (λ (zs : List Task). zs ++ waiting t k d) (g d) ∙ append_assoc (low d) (going t k d x) (waiting t k d))) refl;
        known = λ e. l;
        small = u;
        enters = λ e. absurd (omega (arith, e));
      }

  walked-enter : (l : ℕ) → l < 4294967296 → ((d : ℕ) → Step t s cs n (walk x d) p (enter l d ∷ []) p) → Walked t s cs n k x p 3 l p
  walked-enter l u h = record { few = λ f. absurd (f refl); on = λ f. absurd (f refl); known = λ e. absurd (omega (arith, e)); small = u; enters = λ e. (refl, h) }

  -- ── walking ──
  module _ (w : Walkable t s cs n k x p) where
    small : x < 2048
    small = omega (arith, w.known, w.fits)

    -- what lists no node
    pub walk-silent : (a : ℕ) → Silent (tree_of t x) → a ≡ takes t s cs n x p → (0 < a) × (p + (a - 1) ≤ length s) × Walked t s cs n k x p 1 x (p + (a - 1))
    walk-silent a h e =
        let u : (0 < a) × (p + (a - 1) ≤ length s) × Step t s cs n (walk x 0) p [] (p + (a - 1)) = step-silent t s cs n 0 p w.place x a h w.able e in
        (u.0, u.1, walked-done (p + (a - 1)) (omega (arith, small)) (λ d. (step-silent t s cs n d p w.place x a h w.able e).2))

    module _ (op l y z : ℕ) (made : Made t x op l y z) where
      pub walk-symbol : op ≡ 1 → Walked t s cs n k x p 3 l p
      walk-symbol e = walked-enter l made.small (λ d. (step-symbol t s cs n d p w.place x op l y z small w.able made e w.few).1)

      pub walk-seq : op ≡ 2 → Walked t s cs n k x p 2 y p
      walk-seq e =
          walked_on y (λ d. walk z d ∷ []) (omega (arith, made.left, w.known)) (omega (arith, made.left, small)) (λ d. step-seq t s cs n d p w.place x op l y z small w.able made e)
          (λ d. seq-left t k (expression_count t) w.desk w.fits x op l y z d made w.known e)

      pub walk-choice : (r : ℕ) → op ≡ 3 → Chosen t s cs n y z p r → Walked t s cs n k x p 2 r p
      walk-choice r e h =
          let u : (r < x) × ((d : ℕ) → Step t s cs n (walk x d) p (walk r d ∷ []) p) = ((step-choice t s cs n 0 p w.place x op l y z small w.able made r e h).0, λ d. (step-choice t s cs n d p w.place x op l y z small w.able made r e h).2) in
          walked_on r (λ d. []) (omega (arith, u.0, w.known)) (omega (arith, u.0, small)) u.1
          (λ d. h.up (step-choice t s cs n d p w.place x op l y z small w.able made r e h).1 k (expression_count t) d (going t k d x) w.desk w.fits (omega (arith, made.left, w.known)) (omega (arith, made.right, w.known))
          (choice-left t k (expression_count t) w.desk w.fits x op l y z d made w.known e) (choice-right t k (expression_count t) w.desk w.fits x op l y z d made w.known e))

      pub walk-skip : (a : ℕ) → op ≡ 4 → a ≡ takes t s cs n y p → a ≡ 0 → Walked t s cs n k x p 1 x p
      walk-skip a e h o = walked-done p (omega (arith, small)) (λ d. step-skips t s cs n d p w.place x op l y z small w.able made a e h o)

      pub walk-take : (a : ℕ) → op ≡ 4 → a ≡ takes t s cs n y p → (a ≡ 0 → ⊥) → Walked t s cs n k x p 2 y p
      walk-take a e h f =
          walked_on y (λ d. []) (omega (arith, made.left, w.known)) (omega (arith, made.left, small)) (λ d. step-takes t s cs n d p w.place x op l y z small w.able made a e h f)
          (λ d. option-part t k (expression_count t) w.desk w.fits x op l y z d made w.known e)

      pub walk_ends : (a : ℕ) → op ≡ 5 → a ≡ takes t s cs n y p → a ≤ 1 → Walked t s cs n k x p 1 x p
      walk_ends a e h o = walked-done p (omega (arith, small)) (λ d. star-ends t s cs n d p w.place x op l y z a small w.able made e h o)

      pub walk_more : (a : ℕ) → op ≡ 5 → a ≡ takes t s cs n y p → 1 < a → Walked t s cs n k x p 2 y p
      walk_more a e h o =
          walked_on y (λ d. again y d ∷ []) (omega (arith, made.left, w.known)) (omega (arith, made.left, small)) (λ d. star-more t s cs n d p w.place x op l y z a small w.able made e h o)
          (λ d. star-part t k (expression_count t) w.desk w.fits x op l y z d made w.known e)

      pub walk-plus : op ≡ 6 → Walked t s cs n k x p 2 y p
      walk-plus e =
          walked_on y (λ d. again y d ∷ []) (omega (arith, made.left, w.known)) (omega (arith, made.left, small)) (λ d. step-plus t s cs n d p w.place x op l y z small w.able made e)
          (λ d. plus-part t k (expression_count t) w.desk w.fits x op l y z d made w.known e)

-- ── going up ──
pub five_or_six : (op : ℕ) → 5 ≤ op → op ≤ 6 → (op ≡ 5) ⊎ (op ≡ 6)
five_or_six op l h = elim (eq-or-lt_of_le l) [ inl e ↦ inl (flip e) | inr g ↦ inr (omega arith) ]

module _ (t s cs : List ℕ) (n : ℕ) (k : List ℕ) (x p : ℕ) (desk : Desk t k (expression_count t)) (fits : expression_count t ≤ 1024) (place : p ≤ length s) where
  -- no parent: the body is done
  pub risen-top : (e : ℕ) → e ≡ parent_of k x → e ≡ 0 → Risen t s cs n k x p 0 0
  risen-top e h z =
      record {
        top = λ o d. going-top t k (expression_count t) desk fits d x (flip h ∙ z);
        on = λ f. absurd (f refl);
        known = λ e. absurd (omega (arith, e));
        small = omega arith;
        climbs = λ f. absurd (f refl);
      }

  module _ (e op l y z : ℕ) (h : e ≡ parent_of k x) (f : e ≡ 0 → ⊥) (made : Made t e op l y z) where
    above : (x < e) × (e ≤ expression_count t)
    above = parent_above t k (expression_count t) desk fits x e (flip h) (omega (arith, made.left))

    up-less : (d : ℕ) → climb 1 d e < climb 1 d x
    unfolding climb
    up-less d = omega (arith, above.0, above.1, fits)

    walk-less : (d y : ℕ) → climb 2 d y < climb 1 d x
    unfolding climb
    walk-less d y = omega arith

    -- nothing more behind x in its parent
    risen-by : ((d : ℕ) → going t k d x ≡ going t k d e) → Risen t s cs n k x p 1 e
    risen-by g =
        record {
          top = λ o. absurd (omega (arith, o));
          on = λ o d. moves-same t s cs n (tasks_of t k 1 d x) (tasks_of t k 1 d e) p place (ap (λ (zs : List Task). zs ++ waiting t k d) (flip (g d)));
          known = λ o. absurd (omega (arith, o));
          small = omega (arith, above.1, fits);
          climbs = λ o d. up-less d;
        }

    pub risen-right : op ≡ 2 → (x ≡ y → ⊥) → Risen t s cs n k x p 1 e
    risen-right o g = risen-by (λ d. up_right t k (expression_count t) desk fits e op l y z d made above.1 x o (flip h) g)

    pub risen-other : (op ≡ 2 → ⊥) → (op ≡ 5 → ⊥) → (op ≡ 6 → ⊥) → Risen t s cs n k x p 1 e
    risen-other a b c = risen-by (λ d. up-other t k (expression_count t) desk fits e op l y z d made above.1 x (flip h) a b c)

    -- the right part behind the left one
    pub risen-left : op ≡ 2 → x ≡ y → Risen t s cs n k x p 2 z
    risen-left o g =
        record {
          top = λ o. absurd (omega (arith, o));
          on = λ i d.
              moves-same t s cs n (tasks_of t k 1 d x) (tasks_of t k 2 d z) p place
              (ap (λ (zs : List Task). walk z d ∷ (zs ++ waiting t k d)) (seq-right t k (expression_count t) desk fits e op l y z d made above.1 o)
              ∙ ap (λ (zs : List Task). zs ++ waiting t k d) (flip (up_left t k (expression_count t) desk fits e op l y z d made above.1 x o (flip h) g)));
          known = λ i. omega (arith, made.right, above.1);
          small = omega (arith, made.right, above.1, fits);
          climbs = λ i d. walk-less d z;
        }

    -- a further round, or none
    rounds-are : (op ≡ 5) ⊎ (op ≡ 6) → (d : ℕ) → going t k d x ≡ again x d ∷ going t k d e
    rounds-are (inl o) d = up-star t k (expression_count t) desk fits e op l y z d made above.1 x o (flip h)
    rounds-are (inr o) d = up-plus t k (expression_count t) desk fits e op l y z d made above.1 x o (flip h)

    before-is : (op ≡ 5) ⊎ (op ≡ 6) → (d : ℕ) → tasks_of t k 1 d x ≡ again x d ∷ (going t k d e ++ waiting t k d)
    before-is o d = ap (λ (zs : List Task). zs ++ waiting t k d) (rounds-are o d)

    module _ (a : ℕ) (is : a ≡ takes t s cs n x p) (o : (op ≡ 5) ⊎ (op ≡ 6)) where
      pub risen-ends : a ≤ 1 → Risen t s cs n k x p 1 e
      risen-ends g =
          record {
            top = λ o. absurd (omega (arith, o));
            on = λ i d.
                ends_on d
                (moves-less t s cs n (again x d ∷ (going t k d e ++ waiting t k d)) (going t k d e ++ waiting t k d) p p
                (step-moves t s cs n (again x d) p p [] (going t k d e ++ waiting t k d) (again-ends t s cs n d p place x a (omega (arith, above.0, above.1, fits)) is g)));
            known = λ o. absurd (omega (arith, o));
            small = omega (arith, above.1, fits);
            climbs = λ i d. up-less d;
          }
        where
          ends_on : (d : ℕ) → Moves t s cs n (again x d ∷ (going t k d e ++ waiting t k d)) p (going t k d e ++ waiting t k d) p 0 → Moves t s cs n (tasks_of t k 1 d x) p (tasks_of t k 1 d e) p 0
          ends_on d m = rw (before-is o d) m

      pub risen-more : 1 < a → Risen t s cs n k x p 2 x
      risen-more g =
          record {
            top = λ o. absurd (omega (arith, o));
            on = λ i d.
                more-on d
                (moves-less t s cs n (again x d ∷ (going t k d e ++ waiting t k d)) (walk x d ∷ again x d ∷ (going t k d e ++ waiting t k d)) p p
                (step-moves t s cs n (again x d) p p (walk x d ∷ again x d ∷ []) (going t k d e ++ waiting t k d) (again-more t s cs n d p place x a (omega (arith, above.0, above.1, fits)) is g)));
            known = λ i. omega (arith, above.0, above.1);
            small = omega (arith, above.0, above.1, fits);
            climbs = λ i d. walk-less d x;
          }
        where
          more-on : (d : ℕ) → Moves t s cs n (again x d ∷ (going t k d e ++ waiting t k d)) p (walk x d ∷ again x d ∷ (going t k d e ++ waiting t k d)) p 0
              → Moves t s cs n (tasks_of t k 1 d x) p (tasks_of t k 2 d x) p 0
          more-on d m = rw (before-is o d) m
