-- The tasks that wait behind an expression, by its parents. Assumes nothing.
use Prim.Native.Nat.{ℕ, zero, suc, ◌+◌, ◌≤◌, ◌<◌}
use Rattle.std.specs.Prelude.{◌≡◌, Bool, set}
use Rattle.std.proofs.Math.Path.{refl, ap, sym as flip}
use Rattle.std.proofs.Common.{◌∙◌, subst, arith, add-one, get_or-set_same, eq-eqb, ne_eqb}
use Rattle.std.proofs.Math.Bool.{cond}
use mathlib.Core.List.{List, [], ◌∷◌, ◌++◌}
use Rattle.std.proofs.Math.Seq.{get_or-set_other}
use Rattle.match_desk.specs.steps.Desk.{returns_at, return_of, parent_of, kind_of, left_part, right_part, Parted, Desk}
use Rattle.match_desk.specs.steps.Parts.{Made}
use Rattle.match_desk.specs.laws.Desks.{parent_above, no-parent, parents-stay}
use Rattle.match_walks.specs.steps.Tasks.{Task, walk, again}
use Rattle.match_walks.specs.steps.Waits.{rest_by, rest, if_some, going_in, going, waiting}

by-some : (a : ℕ) (u v : ℕ → List Task) → ((e : ℕ) → a ≡ e → 0 < e → u e ≡ v e) → if_some a u ≡ if_some a v
by-some zero u v h = refl
by-some (suc a) u v h = h (suc a) refl (omega arith)

some_at : (a e : ℕ) (u : ℕ → List Task) → a ≡ e → 0 < e → if_some a u ≡ u e
some_at zero e u q l = absurd (omega (arith, q, l))
some_at (suc a) e u q l = ap u q

module _ (t k k' : List ℕ) (same : (i : ℕ) → parent_of k' i ≡ parent_of k i) where
  in_kept : (f d x : ℕ) → going_in f t k' d x ≡ going_in f t k d x
  unfolding going_in
  in_kept zero d x = refl
  in_kept (suc f) d x =
      ap (λ (a : ℕ). if_some a (λ e. rest t d x e ++ going_in f t k' d e)) (same x)
      ∙ by-some (parent_of k x) (λ e. rest t d x e ++ going_in f t k' d e) (λ e. rest t d x e ++ going_in f t k d e) (λ e q l. ap (λ (zs : List Task). rest t d x e ++ zs) (in_kept f d e))

  waiting_kept : (d : ℕ) → ((j : ℕ) → j < d → return_of k' j ≡ return_of k j) → waiting t k' d ≡ waiting t k d
  unfolding waiting
  waiting_kept zero h = refl
  waiting_kept (suc d) h =
      ap (λ (zs : List Task). zs ++ waiting t k' d) (in_kept 1025 d (return_of k' d) ∙ ap (λ (x : ℕ). going t k d x) (h d (omega arith)))
      ∙ ap (λ (zs : List Task). going t k d (return_of k d) ++ zs) (waiting_kept d (λ j l. h j (omega arith)))

module _ (t k : List ℕ) (m : ℕ) (desk : Desk t k m) (few : m ≤ 1024) where
  -- how many steps are looked at does not matter once they are enough
  in-same : (f g d x : ℕ) → 1025 ≤ f + x → 1025 ≤ g + x → going_in f t k d x ≡ going_in g t k d x
  unfolding going_in
  in-same zero zero d x h i = refl
  in-same zero (suc g) d x h i = flip (ap (λ (a : ℕ). if_some a (λ e. rest t d x e ++ going_in g t k d e)) (no-parent t k m desk few x (omega (arith, h))))
  in-same (suc f) zero d x h i = ap (λ (a : ℕ). if_some a (λ e. rest t d x e ++ going_in f t k d e)) (no-parent t k m desk few x (omega (arith, i)))
  in-same (suc f) (suc g) d x h i =
      by-some (parent_of k x) (λ e. rest t d x e ++ going_in f t k d e) (λ e. rest t d x e ++ going_in g t k d e)
      (λ e q l. ap (λ (zs : List Task). rest t d x e ++ zs) (in-same f g d e (omega (arith, h, (parent_above t k m desk few x e q l).0)) (omega (arith, i, (parent_above t k m desk few x e q l).0))))

  in-up : (f d x e : ℕ) → 1025 ≤ f + x → parent_of k x ≡ e → 0 < e → going_in (suc f) t k d x ≡ rest t d x e ++ going_in f t k d e
  unfolding going_in
  in-up f d x e h q l = some_at (parent_of k x) e (λ e. rest t d x e ++ going_in f t k d e) q l

  in_top : (f d x : ℕ) → parent_of k x ≡ 0 → going_in f t k d x ≡ []
  unfolding going_in
  in_top zero d x h = refl
  in_top (suc f) d x h = ap (λ (a : ℕ). if_some a (λ e. rest t d x e ++ going_in f t k d e)) h

  pub going-top : (d x : ℕ) → parent_of k x ≡ 0 → going t k d x ≡ []
  going-top d x h = in_top 1025 d x h

  -- one step up
  pub going-up : (d x e : ℕ) → parent_of k x ≡ e → 0 < e → going t k d x ≡ rest t d x e ++ going t k d e
  going-up d x e q l = by_count (in-same 1025 (1025 + 1) d x (omega arith) (omega arith)) (add-one 1025)
    where
      by_count : going_in 1025 t k d x ≡ going_in (1025 + 1) t k d x → 1025 + 1 ≡ suc 1025 → going_in 1025 t k d x ≡ rest t d x e ++ going_in 1025 t k d e
      by_count a b = a ∙ ap (λ (f : ℕ). going_in f t k d x) b ∙ in-up 1025 d x e (omega arith) q l

  -- ── an expression whose words are known ──
  module _ (x op l y z d : ℕ) (made : Made t x op l y z) (known : x ≤ m) where
    parted : Parted op (λ i. parent_of k i) x y z
    parted =
        subst (λ (j : ℕ). Parted j (λ i. parent_of k i) x y z) (flip made.kind)
        (subst (λ (j : ℕ). Parted (kind_of t x) (λ i. parent_of k i) x j z) (flip made.first)
        (subst (λ (j : ℕ). Parted (kind_of t x) (λ i. parent_of k i) x (left_part t x) j) (flip made.second) (desk.parts x (omega (arith, made.left)) known)))

    parted-at : (j : ℕ) → op ≡ j → Parted j (λ i. parent_of k i) x y z
    parted-at j e = subst (λ (i : ℕ). Parted i (λ i. parent_of k i) x y z) e parted

    rest-is : (j i : ℕ) → op ≡ j → rest t d i x ≡ rest_by j d i y z
    rest-is j i e =
        ap (λ (a : ℕ). rest_by a d i (left_part t x) (right_part t x)) (flip made.kind ∙ e) ∙ ap (λ (a : ℕ). rest_by j d i a (right_part t x)) (flip made.first)
        ∙ ap (λ (a : ℕ). rest_by j d i y a) (flip made.second)

    up_is : (j i : ℕ) → op ≡ j → parent_of k i ≡ x → going t k d i ≡ rest_by j d i y z ++ going t k d x
    up_is j i e q = going-up d i x q (omega (arith, made.left)) ∙ ap (λ (zs : List Task). zs ++ going t k d x) (rest-is j i e)

    -- part i of x, by the kind of x: nothing behind it
    pub up_none : (j i : ℕ) → op ≡ j → parent_of k i ≡ x → rest_by j d i y z ≡ [] → going t k d i ≡ going t k d x
    up_none j i e q h = up_is j i e q ∙ ap (λ (zs : List Task). zs ++ going t k d x) h

    -- the left part of a sequence, and what is no left part
    pub up_left : (i : ℕ) → op ≡ 2 → parent_of k i ≡ x → i ≡ y → going t k d i ≡ walk z d ∷ going t k d x
    unfolding rest_by
    up_left i e q h = up_is 2 i e q ∙ ap (λ (b : Bool). cond b (walk z d ∷ []) [] ++ going t k d x) (eq-eqb i y h)

    pub up_right : (i : ℕ) → op ≡ 2 → parent_of k i ≡ x → (i ≡ y → ⊥) → going t k d i ≡ going t k d x
    unfolding rest_by
    up_right i e q h = up_is 2 i e q ∙ ap (λ (b : Bool). cond b (walk z d ∷ []) [] ++ going t k d x) (ne_eqb i y h)

    -- rounds
    pub up-star : (i : ℕ) → op ≡ 5 → parent_of k i ≡ x → going t k d i ≡ again i d ∷ going t k d x
    unfolding rest_by
    up-star i e q = up_is 5 i e q

    pub up-plus : (i : ℕ) → op ≡ 6 → parent_of k i ≡ x → going t k d i ≡ again i d ∷ going t k d x
    unfolding rest_by
    up-plus i e q = up_is 6 i e q

    -- the parts
    pub seq-left : op ≡ 2 → going t k d y ≡ walk z d ∷ going t k d x
    seq-left e = up_left y e (parted-at 2 e).0 refl

    pub seq-right : op ≡ 2 → going t k d z ≡ going t k d x
    seq-right e = up_right z e (parted-at 2 e).1 (parted-at 2 e).2

    pub choice-left : op ≡ 3 → going t k d y ≡ going t k d x
    unfolding rest_by
    choice-left e = up_none 3 y e (parted-at 3 e).0 refl

    pub choice-right : op ≡ 3 → going t k d z ≡ going t k d x
    unfolding rest_by
    choice-right e = up_none 3 z e (parted-at 3 e).1 refl

    pub option-part : op ≡ 4 → going t k d y ≡ going t k d x
    unfolding rest_by
    option-part e = up_none 4 y e (parted-at 4 e) refl

    pub star-part : op ≡ 5 → going t k d y ≡ again y d ∷ going t k d x
    star-part e = up-star y e (parted-at 5 e)

    pub plus-part : op ≡ 6 → going t k d y ≡ again y d ∷ going t k d x
    plus-part e = up-plus y e (parted-at 6 e)

    -- a kind that leaves nothing behind its part
    other : (j i : ℕ) → (j ≡ 2 → ⊥) → (j ≡ 5 → ⊥) → (j ≡ 6 → ⊥) → rest_by j d i y z ≡ []
    unfolding rest_by
    other zero i a b c = refl
    other (suc zero) i a b c = refl
    other (suc (suc zero)) i a b c = absurd (a refl)
    other (suc (suc (suc zero))) i a b c = refl
    other (suc (suc (suc (suc zero)))) i a b c = refl
    other (suc (suc (suc (suc (suc zero))))) i a b c = absurd (b refl)
    other (suc (suc (suc (suc (suc (suc zero)))))) i a b c = absurd (c refl)
    other (suc (suc (suc (suc (suc (suc (suc j))))))) i a b c = refl

    pub up-other : (i : ℕ) → parent_of k i ≡ x → (op ≡ 2 → ⊥) → (op ≡ 5 → ⊥) → (op ≡ 6 → ⊥) → going t k d i ≡ going t k d x
    up-other i q a b c = up_none op i refl q (other op i a b c)

  -- ── a level is entered ──
  module _ (d x : ℕ) (level : d ≤ 256) where
    abbrev desk' : List ℕ
    desk' = set k (returns_at + d) x

    stays : (i : ℕ) → parent_of desk' i ≡ parent_of k i
    stays i = parents-stay t k m desk few d x level i

    pub waiting-entered : waiting t (set k (returns_at + d) x) (d + 1) ≡ going t k d x ++ waiting t k d
    unfolding waiting
    waiting-entered =
        ap (waiting t desk') (add-one d)
        ∙ ap (λ (zs : List Task). zs ++ waiting t desk' d) (in_kept t k desk' stays 1025 d (return_of desk' d) ∙ ap (λ (i : ℕ). going t k d i) (get_or-set_same k (returns_at + d) x 0 (omega (arith, desk.size, level))))
        ∙ ap (λ (zs : List Task). going t k d x ++ zs) (waiting_kept t k desk' stays d (λ j l. get_or-set_other k (returns_at + d) (returns_at + j) x 0 (λ e. omega (arith, e, l))))

    pub going-entered : (j b : ℕ) → parent_of k b ≡ 0 → going t (set k (returns_at + d) x) j b ≡ []
    going-entered j b h = in_kept t k desk' stays 1025 j b ∙ going-top j b h
