-- Things that are kept as records, each once, in the order of their first appearance: the number that `note` answers is the thing's place in the
-- list, and the words hold the list with it. Assumes nothing.
use Prim.Native.Nat.{ℕ, zero, suc, ◌+◌, ◌-◌, ◌*◌, ◌≤◌, ◌<◌}
use Rattle.std.specs.Prelude.{◌≡◌, Bool, ◌&&◌, ◌||◌, ◌⊎◌, eqb, set}
use Rattle.std.proofs.Math.Path.{refl, sym, ap}
use Rattle.std.proofs.Common.{◌∙◌, subst, true≢false, inl, inr, ⊎_elim, mul-suc, mul-le-mul_left, eq-or-lt_of_le, length-append, length-set, get_or-set_same, get_or-set_other}
use Rattle.std.proofs.Math.Bool.{true, false, cond}
use Rattle.std.proofs.lemmas.Bool.{false≢true}
use mathlib.Core.List.{List, [], ◌∷◌, ◌++◌}
use native.Mathlib.Omega.{arith}
use Rattle.std.proofs.Math.ListN.{length, get_or, get_or-append}
use Rattle.std.proofs.lemmas.List.Edits.{sets}
use Rattle.std.proofs.Math.Seq.{get_or-append_seam, length-sets}
use borrow.Author.Tests.{eqb-true, eq-eqb}
use Rattle.base_facts.specs.laws.Bools.{and_both, and_left, and_right}
use Rattle.grammar.specs.Same.{same_bytes, is_in, index_of}
use Rattle.grammar_table.specs.Table.{words_from}
use Rattle.grammar_table.specs.steps.Rows.{cap, row_is, seek, kept, Noted}
use Rattle.grammar_table.specs.laws.Caps.{cap-low, cap-high, cap-le}
use Rattle.grammar_table.specs.laws.Words.{words-ext, words-places, words-length, words-get, sets-out, sets-in}
use Rattle.grammar.specs.laws.Same.{bytes-sound, bytes-refl}

-- the words at b are the record, as far as it says which one it is
pub record At (o w : ℕ) (t : List ℕ) (b : ℕ) (rec : List ℕ) : Type 0 where
  pub first : get_or t b 0 ≡ get_or rec 0 0
  pub others : (j : ℕ) → o ≤ j → j < w → get_or t (b + j) 0 ≡ get_or rec j 0

module _ (o w : ℕ) (ow : o ≤ w) (t : List ℕ) (b : ℕ) (rec : List ℕ) where
  pub at_row : At o w t b rec → row_is t b rec o w ≡ true
  unfolding row_is
  at_row h =
      and_both (eqb (get_or t b 0) (get_or rec 0 0)) _ (eq-eqb (get_or t b 0) (get_or rec 0 0) h.first)
      (ap (λ (l : List ℕ). same_bytes l (words_from rec o (w - o)))
      (words-ext t (b + o) rec o (w - o) (λ k l. ap (λ (x : ℕ). get_or t x 0) (let e : b + o + k ≡ b + (o + k) = omega arith in e) ∙ h.others (o + k) (omega arith) (omega arith)))
      ∙ bytes-refl (words_from rec o (w - o)))

  pub row_at : row_is t b rec o w ≡ true → At o w t b rec
  unfolding row_is
  row_at e = record {
    first = eqb-true (get_or t b 0) (get_or rec 0 0) (and_left (eqb (get_or t b 0) (get_or rec 0 0)) _ e);
    others = λ j l k.
        let p : o + (j - o) ≡ j = omega arith in
        let q : b + o + (j - o) ≡ b + j = omega arith in
        ap (λ (x : ℕ). get_or t x 0) (sym q)
        ∙ words-places t (b + o) rec o (w - o) (bytes-sound _ _ (and_right (eqb (get_or t b 0) (get_or rec 0 0)) _ e)) (j - o) (omega arith)
        ∙ ap (λ (x : ℕ). get_or rec x 0) p;
  }

-- ── lists in which each thing stands once ──
module _ {A : Type 0} (same : A → A → Bool) where
  abbrev pub add_by : Bool → A → List A → List A
  add_by true x l = l
  add_by false x l = l ++ (x ∷ [])

  -- x behind the others, where it is new
  unfoldable pub also : A → List A → List A
  also x l = add_by (is_in same x l) x l

  -- one after the other
  unfoldable pub adds : List A → List A → List A
  adds l [] = l
  adds l (x ∷ xs) = adds (also x l) xs

module _ {A : Type 0} (Fit : A → Type 0) where
  abbrev pub All : List A → Type 0
  All [] = Unit {0}
  All (x ∷ l) = Fit x × All l

  pub all_left : (l m : List A) → All (l ++ m) → All l
  all_left [] m h = tt
  all_left (x ∷ l) m h = (h.0, all_left l m h.1)

  pub all-last : (l : List A) (x : A) → All (l ++ (x ∷ [])) → Fit x
  all-last [] x h = h.0
  all-last (y ∷ l) x h = all-last l x h.1

  pub all-at : (d : A) (l : List A) (i : ℕ) → All l → i < length l → Fit (get_or l i d)
  all-at d [] i h k = absurd (omega arith)
  all-at d (x ∷ l) zero h k = h.0
  all-at d (x ∷ l) (suc i) h k = all-at d l i h.1 (omega arith)

pub or_right : (a b : Bool) → a ≡ false → (a || b) ≡ b
or_right a b e = rw e refl

module _ {A : Type 0} (same : A → A → Bool) where
  index_at : (x y : A) (l : List A) (b : Bool) → same x y ≡ b → index_of same x (y ∷ l) ≡ cond b 0 (suc (index_of same x l))
  unfolding index_of
  index_at x y l b e = ap (λ (c : Bool). cond c 0 (suc (index_of same x l))) e

  in-at : (x y : A) (l : List A) (b : Bool) → same x y ≡ b → is_in same x (y ∷ l) ≡ (b || is_in same x l)
  unfolding is_in
  in-at x y l b e = ap (λ (c : Bool). c || is_in same x l) e

  pub index_in : (x : A) (l : List A) → is_in same x l ≡ true → index_of same x l < length l
  unfolding is_in
  index_in x [] e = absurd (false≢true e)
  index_in x (y ∷ l) e = by (same x y) refl (index_in x l)
    where
      by : (b : Bool) → same x y ≡ b → (is_in same x l ≡ true → index_of same x l < length l) → index_of same x (y ∷ l) < suc (length l)
      by true f g = omega (arith, index_at x y l true f)
      by false f g = omega (arith, index_at x y l false f, g (sym (in-at x y l false f) ∙ e))

  pub index-out : (x : A) (l : List A) → is_in same x l ≡ false → index_of same x l ≡ length l
  unfolding is_in index_of
  index-out x [] e = refl
  index-out x (y ∷ l) e = by (same x y) refl (index-out x l)
    where
      by : (b : Bool) → same x y ≡ b → (is_in same x l ≡ false → index_of same x l ≡ length l) → index_of same x (y ∷ l) ≡ suc (length l)
      by true f g = absurd (true≢false (sym (in-at x y l true f) ∙ e))
      by false f g = index_at x y l false f ∙ ap suc (g (sym (in-at x y l false f) ∙ e))

  -- what stands in a list has the same number in every longer one
  pub index_stays : (x : A) (l m : List A) → is_in same x l ≡ true → index_of same x (l ++ m) ≡ index_of same x l
  unfolding is_in
  index_stays x [] m e = absurd (false≢true e)
  index_stays x (y ∷ l) m e = by (same x y) refl (index_stays x l m)
    where
      by : (b : Bool) → same x y ≡ b → (is_in same x l ≡ true → index_of same x (l ++ m) ≡ index_of same x l) → index_of same x (y ∷ (l ++ m)) ≡ index_of same x (y ∷ l)
      by true f g = index_at x y (l ++ m) true f ∙ sym (index_at x y l true f)
      by false f g = index_at x y (l ++ m) false f ∙ ap suc (g (sym (in-at x y l false f) ∙ e)) ∙ sym (index_at x y l false f)

  pub index-new : (x : A) (l : List A) → same x x ≡ true → is_in same x l ≡ false → index_of same x (l ++ (x ∷ [])) ≡ length l
  unfolding is_in
  index-new x [] r e = index_at x x [] true r
  index-new x (y ∷ l) r e = by (same x y) refl (index-new x l r)
    where
      by : (b : Bool) → same x y ≡ b → (is_in same x l ≡ false → index_of same x (l ++ (x ∷ [])) ≡ length l) → index_of same x (y ∷ (l ++ (x ∷ []))) ≡ suc (length l)
      by true f g = absurd (true≢false (sym (in-at x y l true f) ∙ e))
      by false f g = index_at x y (l ++ (x ∷ [])) false f ∙ ap suc (g (sym (in-at x y l false f) ∙ e))

  pub in-append : (x : A) (l m : List A) → is_in same x (l ++ m) ≡ (is_in same x l || is_in same x m)
  unfolding is_in
  in-append x [] m = refl
  in-append x (y ∷ l) m = by (same x y) refl (in-append x l m)
    where
      by : (b : Bool) → same x y ≡ b → is_in same x (l ++ m) ≡ (is_in same x l || is_in same x m) → is_in same x (y ∷ (l ++ m)) ≡ (is_in same x (y ∷ l) || is_in same x m)
      by true f g = in-at x y (l ++ m) true f ∙ sym (ap (λ (c : Bool). c || is_in same x m) (in-at x y l true f))
      by false f g = in-at x y (l ++ m) false f ∙ g ∙ sym (ap (λ (c : Bool). c || is_in same x m) (in-at x y l false f))

  pub also-in : (x : A) (l : List A) → is_in same x l ≡ true → also same x l ≡ l
  unfolding also
  also-in x l e = ap (λ (b : Bool). add_by same b x l) e

  pub also-new : (x : A) (l : List A) → is_in same x l ≡ false → also same x l ≡ l ++ (x ∷ [])
  unfolding also
  also-new x l e = ap (λ (b : Bool). add_by same b x l) e
