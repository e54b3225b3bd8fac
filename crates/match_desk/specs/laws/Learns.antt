-- The desk is made expression after expression: parts come before wholes. Assumes nothing.
use Prim.Native.Nat.{ℕ, zero, suc, ◌+◌, ◌-◌, ◌≤◌, ◌<◌, max}
use Rattle.std.specs.Prelude.{◌≡◌, ◌⊎◌, Bool, true, false, List, [], ◌++◌, eqb, length, get_or, set, replicate}
use Rattle.std.proofs.Math.Path.{refl}
use Rattle.std.proofs.Common.{ap, ◌∙◌, subst, sym as flip, inl, inr, arith, eq-or-lt_of_le, length-set, get_or-set_same, get_or-set_other, eqb-true}
use Rattle.std.proofs.lemmas.List.{length-replicate}
use Rattle.std.proofs.lemmas.Bool.{eqb-false}
use Rattle.grammar.specs.Exp.{Exp, seq, alt, opt, star, plus}
use Rattle.grammar_table.specs.Table.{leaf_in, symbol_word, expression_count}
use Rattle.grammar_table.specs.Trees.{tree_of}
use Rattle.match_meaning.specs.Meaning.{Node}
use Rattle.match_list.specs.Nodes.{seq_n, alt_n, opt_n, step_n, rep_n, walk_of}
use Rattle.match_desk.specs.steps.Desk.{parents_at, desk_words, mark_of, parent_of, kind_of, left_part, right_part, Parted, Forest, Silent, Desk}
use Rattle.match_desk.specs.steps.Parts.{shape, Made}
use Rattle.match_desk.specs.laws.Parts.{shaped}
use Rattle.match_desk.specs.laws.Desks.{keep}

-- ── an expression that holds no symbol, but under `&` and `!`, lists no node ──
none_both : (x : ℕ) (a : List Node) (k : ℕ → List Node) → a ≡ [] → ((m : ℕ) → k m ≡ []) → seq_n x a k ≡ []
unfolding seq_n
none_both zero a k h g = refl
none_both (suc m) a k h g = ap (λ (y : List Node). y ++ k m) h ∙ g m

none-either : (x : ℕ) (a b : List Node) → a ≡ [] → b ≡ [] → alt_n x a b ≡ []
unfolding alt_n
none-either zero a b h g = g
none-either (suc m) a b h g = h

none-option : (x : ℕ) (a : List Node) → a ≡ [] → opt_n x a ≡ []
unfolding opt_n
none-option zero a h = refl
none-option (suc m) a h = h

none-round : (x : ℕ) (a : List Node) (k : ℕ → List Node) → a ≡ [] → ((m : ℕ) → k m ≡ []) → step_n x a k ≡ []
unfolding step_n
none-round zero a k h g = refl
none-round (suc zero) a k h g = refl
none-round (suc (suc m)) a k h g = ap (λ (y : List Node). y ++ k (suc m)) h ∙ g (suc m)

none-rounds : (j : ℕ) (f : ℕ → ℕ) (w : ℕ → List Node) (p : ℕ) → ((q : ℕ) → w q ≡ []) → rep_n j f w p ≡ []
unfolding rep_n
none-rounds zero f w p h = refl
none-rounds (suc j) f w p h = none-round (f p) (w p) (λ m. rep_n j f w (p + m)) (h p) (λ m. none-rounds j f w (p + m) h)

silent-seq : (a b : Exp ℕ) → Silent a → Silent b → Silent (seq a b)
unfolding walk_of
silent-seq a b h g s f w p = none_both (f a p) (walk_of s f w a p) (λ m. walk_of s f w b (p + m)) (h s f w p) (λ m. g s f w (p + m))

silent-alt : (a b : Exp ℕ) → Silent a → Silent b → Silent (alt a b)
unfolding walk_of
silent-alt a b h g s f w p = none-either (f a p) (walk_of s f w a p) (walk_of s f w b p) (h s f w p) (g s f w p)

silent-opt : (a : Exp ℕ) → Silent a → Silent (opt a)
unfolding walk_of
silent-opt a h s f w p = none-option (f a p) (walk_of s f w a p) (h s f w p)

silent-star : (a : Exp ℕ) → Silent a → Silent (star a)
unfolding walk_of
silent-star a h s f w p = none-rounds (length s) (λ q. f a q) (λ q. walk_of s f w a q) p (λ q. h s f w q)

silent-plus : (a : Exp ℕ) → Silent a → Silent (plus a)
unfolding walk_of
silent-plus a h s f w p =
    none_both (f a p) (walk_of s f w a p) (λ m. rep_n (length s) (λ q. f a q) (λ q. walk_of s f w a q) (p + m)) (h s f w p)
    (λ m. none-rounds (length s) (λ q. f a q) (λ q. walk_of s f w a q) (p + m) (λ q. h s f w q))

module _ (t : List ℕ) (x k l y z : ℕ) (made : Made t x k l y z) where
  by_shape : (j : ℕ) → k ≡ j → Silent (shape j (leaf_in t l) l (tree_of t y) (tree_of t z)) → Silent (tree_of t x)
  by_shape j e h = subst Silent (shaped t x k l y z j made e) h

  -- terminals and guards
  pub silent-other : (k ≡ 1 → ⊥) → (k ≡ 2 → ⊥) → (k ≡ 3 → ⊥) → (k ≡ 4 → ⊥) → (k ≡ 5 → ⊥) → (k ≡ 6 → ⊥) → Silent (tree_of t x)
  unfolding shape walk_of
  silent-other a b c d e f = by_shape k refl (go k a b c d e f)
    where
      go : (j : ℕ) → (j ≡ 1 → ⊥) → (j ≡ 2 → ⊥) → (j ≡ 3 → ⊥) → (j ≡ 4 → ⊥) → (j ≡ 5 → ⊥) → (j ≡ 6 → ⊥) → Silent (shape j (leaf_in t l) l (tree_of t y) (tree_of t z))
      go zero a b c d e f = λ s u w p. refl
      go (suc zero) a b c d e f = absurd (a refl)
      go (suc (suc zero)) a b c d e f = absurd (b refl)
      go (suc (suc (suc zero))) a b c d e f = absurd (c refl)
      go (suc (suc (suc (suc zero)))) a b c d e f = absurd (d refl)
      go (suc (suc (suc (suc (suc zero))))) a b c d e f = absurd (e refl)
      go (suc (suc (suc (suc (suc (suc zero)))))) a b c d e f = absurd (f refl)
      go (suc (suc (suc (suc (suc (suc (suc zero))))))) a b c d e f = λ s u w p. refl
      go (suc (suc (suc (suc (suc (suc (suc (suc j)))))))) a b c d e f = λ s u w p. refl

  silent-two : (k ≡ 2) ⊎ (k ≡ 3) → Silent (tree_of t y) → Silent (tree_of t z) → Silent (tree_of t x)
  unfolding shape
  silent-two (inl e) h g = by_shape 2 e (silent-seq (tree_of t y) (tree_of t z) h g)
  silent-two (inr e) h g = by_shape 3 e (silent-alt (tree_of t y) (tree_of t z) h g)

  silent-one : (k ≡ 4) ⊎ ((k ≡ 5) ⊎ (k ≡ 6)) → Silent (tree_of t y) → Silent (tree_of t x)
  unfolding shape
  silent-one (inl e) h = by_shape 4 e (silent-opt (tree_of t y) h)
  silent-one (inr (inl e)) h = by_shape 5 e (silent-star (tree_of t y) h)
  silent-one (inr (inr e)) h = by_shape 6 e (silent-plus (tree_of t y) h)

-- `.`
pub silent-any : (t : List ℕ) (x : ℕ) → x ≡ 0 → Silent (tree_of t x)
unfolding walk_of
silent-any t zero z = λ s f w p. refl
silent-any t (suc x) z = absurd (omega (arith, z))

-- ── before the first ──
zeros : (n i : ℕ) → ◌≡◌ {A = ℕ} (get_or (replicate n 0) i 0) 0
zeros zero i = refl
zeros (suc n) zero = refl
zeros (suc n) (suc i) = zeros n i

pub desk-empty : (t : List ℕ) → Desk t (replicate desk_words 0) 0
desk-empty t =
    record {
      size = length-replicate {A = ℕ} desk_words 0;
      parts = λ x l h. absurd (omega (arith, l, h));
      roots = λ r l. zeros desk_words (parents_at + symbol_word t r 1);
      range = λ i. inl (zeros desk_words (parents_at + i));
      silent = λ x l h. silent-any t x (omega (arith, l));
    }

-- ── one more ──
module _ (t k k' : List ℕ) (x : ℕ) (pos : 0 < x) (inside : x ≤ expression_count t) (few : expression_count t ≤ 1024) (forest : Forest t) (desk : Desk t k (x - 1))
    (size : length k' ≡ length k) (others : (i : ℕ) → (forest.parent i ≡ x → ⊥) → parent_of k' i ≡ parent_of k i)
    (range : (i : ℕ) → (parent_of k' i ≡ parent_of k i) ⊎ ((parent_of k' i ≡ x) × (i < x))) (marks : (e : ℕ) → e < x → mark_of k' e ≡ mark_of k e)
    (parts : Parted (kind_of t x) (λ i. parent_of k' i) x (left_part t x) (right_part t x)) (silent : mark_of k' x ≡ 0 → Silent (tree_of t x)) where
  parts-by : (e : ℕ) → 0 < e → (e ≡ x) ⊎ (e < x) → Parted (kind_of t e) (λ i. parent_of k' i) e (left_part t e) (right_part t e)
  parts-by e l (inl q) = subst (λ (a : ℕ). Parted (kind_of t a) (λ i. parent_of k' i) a (left_part t a) (right_part t a)) (flip q) parts
  parts-by e l (inr h) =
      keep (kind_of t e) e (left_part t e) (right_part t e) forest.parent (λ i. parent_of k i) (λ i. parent_of k' i) (forest.parts e l (omega (arith, h, inside))) (desk.parts e l (omega (arith, h, pos)))
      (λ i q. others i (λ a. omega (arith, a, q, h)))

  range-by : (i : ℕ) → (parent_of k i ≡ 0) ⊎ ((i < parent_of k i) × (parent_of k i ≤ x - 1)) → (parent_of k' i ≡ parent_of k i) ⊎ ((parent_of k' i ≡ x) × (i < x))
      → (parent_of k' i ≡ 0) ⊎ ((i < parent_of k' i) × (parent_of k' i ≤ x))
  range-by i (inl z) (inl q) = inl (q ∙ z)
  range-by i (inr h) (inl q) = inr (omega (arith, h.0, q), omega (arith, h.1, q))
  range-by i a (inr h) = inr (omega (arith, h.0, h.1), omega (arith, h.0))

  silent-by : (e : ℕ) → (e ≡ x) ⊎ (e < x) → mark_of k' e ≡ 0 → Silent (tree_of t e)
  silent-by e (inl q) h = subst (λ (a : ℕ). Silent (tree_of t a)) (flip q) (silent (ap (mark_of k') (flip q) ∙ h))
  silent-by e (inr l) h = desk.silent e (omega (arith, l, pos)) (flip (marks e l) ∙ h)

  learnt : Desk t k' x
  learnt =
      record {
        size = size ∙ desk.size;
        parts = λ e l h. parts-by e l (eq-or-lt_of_le h);
        roots = λ r l. others _ (λ a. omega (arith, a, forest.roots r l, pos)) ∙ desk.roots r l;
        range = λ i. range-by i (desk.range i) (range i);
        silent = λ e l h. silent-by e (eq-or-lt_of_le l) h;
      }

-- ── by the words that code stores ──
module _ (t k : List ℕ) (x op l y z : ℕ) (inside : x ≤ expression_count t) (few : expression_count t ≤ 1024) (forest : Forest t) (desk : Desk t k (x - 1)) (made : Made t x op l y z) where
  pos : 0 < x
  pos = omega (arith, made.left)

  -- what the forest says of the parts, in the words that code has read
  parted : (j : ℕ) → op ≡ j → Parted j forest.parent x y z
  parted j e =
      subst (λ (a : ℕ). Parted a forest.parent x y z) (flip made.kind ∙ e)
      (subst (λ (a : ℕ). Parted (kind_of t x) forest.parent x a z) (flip made.first)
      (subst (λ (a : ℕ). Parted (kind_of t x) forest.parent x (left_part t x) a) (flip made.second) (forest.parts x pos inside)))

  as-kind : (j : ℕ) (f : ℕ → ℕ) → op ≡ j → Parted j f x y z → Parted (kind_of t x) f x (left_part t x) (right_part t x)
  as-kind j f e h =
      subst (λ (a : ℕ). Parted a f x (left_part t x) (right_part t x)) (flip e ∙ made.kind)
      (subst (λ (a : ℕ). Parted j f x a (right_part t x)) made.first (subst (λ (a : ℕ). Parted j f x y a) made.second h))

  -- a word of the marks
  module _ (v : ℕ) where
    abbrev marked : List ℕ
    marked = set k x v

    parents-stay : (i : ℕ) → parent_of marked i ≡ parent_of k i
    parents-stay i = get_or-set_other k x (parents_at + i) v 0 (λ e. omega (arith, e, inside, few))

    marks_stay : (e : ℕ) → e < x → mark_of marked e ≡ mark_of k e
    marks_stay e h = get_or-set_other k x e v 0 (λ q. omega (arith, q, h))

    mark-is : mark_of marked x ≡ v
    mark-is = get_or-set_same k x v 0 (omega (arith, desk.size, inside, few))

  -- a terminal or a guard: nothing is stored
  other-parts : (j : ℕ) (f : ℕ → ℕ) → (j ≡ 2 → ⊥) → (j ≡ 3 → ⊥) → (j ≡ 4 → ⊥) → (j ≡ 5 → ⊥) → (j ≡ 6 → ⊥) → Parted j f x y z
  other-parts zero f b c d e g = tt
  other-parts (suc zero) f b c d e g = tt
  other-parts (suc (suc zero)) f b c d e g = absurd (b refl)
  other-parts (suc (suc (suc zero))) f b c d e g = absurd (c refl)
  other-parts (suc (suc (suc (suc zero)))) f b c d e g = absurd (d refl)
  other-parts (suc (suc (suc (suc (suc zero))))) f b c d e g = absurd (e refl)
  other-parts (suc (suc (suc (suc (suc (suc zero)))))) f b c d e g = absurd (g refl)
  other-parts (suc (suc (suc (suc (suc (suc (suc j))))))) f b c d e g = tt

  pub learn-other : (op ≡ 1 → ⊥) → (op ≡ 2 → ⊥) → (op ≡ 3 → ⊥) → (op ≡ 4 → ⊥) → (op ≡ 5 → ⊥) → (op ≡ 6 → ⊥) → Desk t k x
  learn-other a b c d e f =
      learnt t k k x pos inside few forest desk refl (λ i g. refl) (λ i. inl refl) (λ e g. refl) (as-kind op (λ i. parent_of k i) refl (other-parts op (λ i. parent_of k i) b c d e f))
      (λ h. silent-other t x op l y z made a b c d e f)

  -- a symbol
  pub learn-symbol : op ≡ 1 → Desk t (set k x 1) x
  learn-symbol e =
      learnt t k (set k x 1) x pos inside few forest desk (length-set k x 1) (λ i g. parents-stay 1 i) (λ i. inl (parents-stay 1 i)) (marks_stay 1) (as-kind 1 (λ i. parent_of (set k x 1) i) e tt)
      (λ h. absurd (omega (arith, h, mark-is 1)))

  -- one part
  module _ (v : ℕ) where
    abbrev adopted : List ℕ
    adopted = set (set k x v) (parents_at + y) x

    here : parent_of adopted y ≡ x
    here = get_or-set_same (set k x v) (parents_at + y) x 0 (omega (arith, length-set k x v, desk.size, made.left, inside, few))

    elsewhere : (i : ℕ) → (i ≡ y → ⊥) → parent_of adopted i ≡ parent_of k i
    elsewhere i h = get_or-set_other (set k x v) (parents_at + y) (parents_at + i) x 0 (λ e. h (omega (arith, e))) ∙ parents-stay v i

    mark-stays : (e : ℕ) → e ≤ x → mark_of adopted e ≡ mark_of (set k x v) e
    mark-stays e h = get_or-set_other (set k x v) (parents_at + y) e x 0 (λ q. omega (arith, q, h, inside, few))

    where-one : (i : ℕ) (b : Bool) → eqb i y ≡ b → (parent_of adopted i ≡ parent_of k i) ⊎ ((parent_of adopted i ≡ x) × (i < x))
    where-one i true e = inr (ap (λ (a : ℕ). parent_of adopted a) (eqb-true i y e) ∙ here, omega (arith, eqb-true i y e, made.left))
    where-one i false e = inl (elsewhere i (eqb-false i y e))

    learn-one : (j : ℕ) → op ≡ j → forest.parent y ≡ x → Parted (kind_of t x) (λ i. parent_of adopted i) x (left_part t x) (right_part t x) → (v ≡ 0 → Silent (tree_of t x)) → Desk t adopted x
    learn-one j e q h g =
        learnt t k adopted x pos inside few forest desk (length-set (set k x v) (parents_at + y) x ∙ length-set k x v) (λ i f. elsewhere i (λ a. f (ap forest.parent a ∙ q)))
        (λ i. where-one i (eqb i y) refl) (λ e f. mark-stays e (omega (arith, f)) ∙ marks_stay v e f) h (λ f. g (flip (mark-stays x (omega arith) ∙ mark-is v) ∙ f))

    silent-y : v ≡ mark_of k y → v ≡ 0 → Silent (tree_of t y)
    silent-y a b = desk.silent y (omega (arith, made.left)) (flip a ∙ b)

    pub learn-option : op ≡ 4 → v ≡ mark_of k y → Desk t (set (set k x v) (parents_at + y) x) x
    learn-option e m = learn-one 4 e (parted 4 e) (as-kind 4 (λ i. parent_of adopted i) e here) (λ g. silent-one t x op l y z made (inl e) (silent-y m g))

    pub learn-star : op ≡ 5 → v ≡ mark_of k y → Desk t (set (set k x v) (parents_at + y) x) x
    learn-star e m = learn-one 5 e (parted 5 e) (as-kind 5 (λ i. parent_of adopted i) e here) (λ g. silent-one t x op l y z made (inr (inl e)) (silent-y m g))

    pub learn-plus : op ≡ 6 → v ≡ mark_of k y → Desk t (set (set k x v) (parents_at + y) x) x
    learn-plus e m = learn-one 6 e (parted 6 e) (as-kind 6 (λ i. parent_of adopted i) e here) (λ g. silent-one t x op l y z made (inr (inr e)) (silent-y m g))

    -- two
    abbrev both : List ℕ
    both = set (set (set k x v) (parents_at + y) x) (parents_at + z) x

    there : parent_of both z ≡ x
    there =
        get_or-set_same adopted (parents_at + z) x 0
        (omega (arith, length-set (set k x v) (parents_at + y) x, length-set k x v, desk.size, made.right, inside, few))

    apart : (i : ℕ) → (i ≡ z → ⊥) → parent_of both i ≡ parent_of adopted i
    apart i h = get_or-set_other adopted (parents_at + z) (parents_at + i) x 0 (λ e. h (omega (arith, e)))

    mark-both : (e : ℕ) → e ≤ x → mark_of both e ≡ mark_of (set k x v) e
    mark-both e h = get_or-set_other adopted (parents_at + z) e x 0 (λ q. omega (arith, q, h, inside, few)) ∙ mark-stays e h

    where-two : (i : ℕ) (b : Bool) → eqb i z ≡ b → (parent_of both i ≡ parent_of k i) ⊎ ((parent_of both i ≡ x) × (i < x))
    where-two i true e = inr (ap (λ (a : ℕ). parent_of both a) (eqb-true i z e) ∙ there, omega (arith, eqb-true i z e, made.right))
    where-two i false e = subst (λ (a : ℕ). (a ≡ parent_of k i) ⊎ ((a ≡ x) × (i < x))) (flip (apart i (eqb-false i z e))) (where-one i (eqb i y) refl)

    learn-two : forest.parent y ≡ x → forest.parent z ≡ x → Parted (kind_of t x) (λ i. parent_of both i) x (left_part t x) (right_part t x) → (v ≡ 0 → Silent (tree_of t x)) → Desk t both x
    learn-two q r h g =
        learnt t k both x pos inside few forest desk (length-set adopted (parents_at + z) x ∙ length-set (set k x v) (parents_at + y) x ∙ length-set k x v)
        (λ i f. apart i (λ a. f (ap forest.parent a ∙ r)) ∙ elsewhere i (λ a. f (ap forest.parent a ∙ q))) (λ i. where-two i (eqb i z) refl)
        (λ e f. mark-both e (omega (arith, f)) ∙ marks_stay v e f) h (λ f. g (flip (mark-both x (omega arith) ∙ mark-is v) ∙ f))

    silent-z : mark_of k z ≡ 0 → Silent (tree_of t z)
    silent-z b = desk.silent z (omega (arith, made.right)) b

    silent-y' : mark_of k y ≡ 0 → Silent (tree_of t y)
    silent-y' b = desk.silent y (omega (arith, made.left)) b

    left_here : (z ≡ y → ⊥) → parent_of both y ≡ x
    left_here f = apart y (λ a. f (flip a)) ∙ here

    pub learn-seq : op ≡ 2 → (v ≡ 0 → (mark_of k y ≡ 0) × (mark_of k z ≡ 0)) → Desk t (set (set (set k x v) (parents_at + y) x) (parents_at + z) x) x
    learn-seq e m =
        let f : (forest.parent y ≡ x) × (forest.parent z ≡ x) × (z ≡ y → ⊥) = parted 2 e in
        learn-two f.0 f.1 (as-kind 2 (λ i. parent_of both i) e (left_here f.2, there, f.2)) (λ g. silent-two t x op l y z made (inl e) (silent-y' (m g).0) (silent-z (m g).1))

    pub learn-choice : op ≡ 3 → (v ≡ 0 → (mark_of k y ≡ 0) × (mark_of k z ≡ 0)) → Desk t (set (set (set k x v) (parents_at + y) x) (parents_at + z) x) x
    learn-choice e m =
        let f : (forest.parent y ≡ x) × (forest.parent z ≡ x) × (z ≡ y → ⊥) = parted 3 e in
        learn-two f.0 f.1 (as-kind 3 (λ i. parent_of both i) e (left_here f.2, there, f.2)) (λ g. silent-two t x op l y z made (inr e) (silent-y' (m g).0) (silent-z (m g).1))

    -- either of them, where v is the greater of the two marks
    pub learn-two-of : v ≡ max (mark_of k y) (mark_of k z) → 2 ≤ op → op ≤ 3 → Desk t (set (set (set k x v) (parents_at + y) x) (parents_at + z) x) x
    learn-two-of m low high = go (eqb op 2) refl
      where
        none : v ≡ 0 → (mark_of k y ≡ 0) × (mark_of k z ≡ 0)
        none o = (omega (arith, o, m), omega (arith, o, m))

        go : (b : Bool) → eqb op 2 ≡ b → Desk t (set (set (set k x v) (parents_at + y) x) (parents_at + z) x) x
        go true e = learn-seq (eqb-true op 2 e) none
        go false e = let f = eqb-false op 2 e in learn-choice (omega (arith, f, low, high)) none

    -- either of the three that have one part
    pub learn-one-of : v ≡ mark_of k y → 4 ≤ op → op ≤ 6 → Desk t (set (set k x v) (parents_at + y) x) x
    learn-one-of m low high = go (eqb op 4) (eqb op 5) refl refl
      where
        go : (a b : Bool) → eqb op 4 ≡ a → eqb op 5 ≡ b → Desk t (set (set k x v) (parents_at + y) x) x
        go true b e f = learn-option (eqb-true op 4 e) m
        go false true e f = learn-star (eqb-true op 5 f) m
        go false false e f = let u = eqb-false op 4 e in let w = eqb-false op 5 f in learn-plus (omega (arith, u, w, low, high)) m
