-- Bytes that must stand in a text, one after the other. Assumes nothing.
use Rattle.std.specs.Prelude.{ℕ, suc, ◌+◌, ◌≤◌, ◌<◌, ◌≡◌, Bool, false, ◌&&◌, ltb, length, get_or, drop, Option as Maybe, None}
use Rattle.std.proofs.Math.Path.{refl, sym, ap}
use Rattle.std.proofs.Common.{◌∙◌, subst, ⊎_elim, arith, drop-cons}
use Rattle.std.proofs.Math.Bool.{true}
use mathlib.Core.List.{List, [], ◌∷◌, ◌++◌}
use Rattle.std.proofs.Math.Numerals.{add-one}
use Rattle.std.proofs.Math.Dec.{eqb}
use borrow.Author.Tests.{lt-ltb, le-ltb, eq-eqb, ne_eqb}
use Rattle.base_facts.specs.laws.Numbers.{lt-or-ge, same?}
use Rattle.tree_json.specs.Reading.{ate}
use Rattle.tree_read.specs.steps.Places.{Reached}
use Rattle.std.proofs.lemmas.List.{length-drop}

module _ (js : List ℕ) where
  -- by what the test of the first byte says
  abbrev ate_by : List ℕ → ℕ → Bool → ℕ
  ate_by bs at t = elim t [ true ↦ ate bs js at | false ↦ suc (length js) ]

  first_byte : (b : ℕ) (bs : List ℕ) (at : ℕ) (t : Bool) → (ltb at (length js) && eqb (get_or js at 0) b) ≡ t → ate (b ∷ bs) js at ≡ ate_by bs (suc at) t
  unfolding ate
  first_byte b bs at t e = ap (ate_by bs (suc at)) e

  past : (b : ℕ) (bs : List ℕ) (at : ℕ) → length js ≤ at → ate (b ∷ bs) js at ≡ suc (length js)
  past b bs at h = first_byte b bs at false (rw (le-ltb at (length js) h))

  -- a place past the end stays
  pub stays : (xs : List ℕ) → ate xs js (suc (length js)) ≡ suc (length js)
  unfolding ate
  stays [] = refl
  stays (b ∷ bs) = past b bs (suc (length js)) (omega arith)

  either_way : (t : Bool) (xs ys : List ℕ) (at : ℕ) → ate (xs ++ ys) js at ≡ ate ys js (ate xs js at) → ate_by (xs ++ ys) at t ≡ ate ys js (ate_by xs at t)
  either_way true xs ys at h = h
  either_way false xs ys at h = sym (stays ys)

  pub ate-append : (xs ys : List ℕ) (at : ℕ) → ate (xs ++ ys) js at ≡ ate ys js (ate xs js at)
  unfolding ate
  ate-append [] ys at = refl
  ate-append (b ∷ xs) ys at = either_way (ltb at (length js) && eqb (get_or js at 0) b) xs ys (suc at) (ate-append xs ys (suc at))

  -- one text behind another
  pub on : (xs ys : List ℕ) (at a r : ℕ) → a ≡ ate xs js at → r ≡ ate ys js a → r ≡ ate (xs ++ ys) js at
  on xs ys at a r e f = f ∙ ap (ate ys js) e ∙ sym (ate-append xs ys at)

  -- from past the end on nothing stands there
  pub gone : (xs : List ℕ) (at : ℕ) → length js < at → length js < ate xs js at
  unfolding ate
  gone [] at h = h
  gone (b ∷ bs) at h = rw (past b bs at (omega (arith, h))) (omega arith)

  pub gone-on : (xs ys : List ℕ) (at : ℕ) → length js < ate xs js at → length js < ate (xs ++ ys) js at
  gone-on xs ys at h = rw (ate-append xs ys at) (gone ys (ate xs js at) h)

  -- the same bytes, and one text behind another
  pub same_place : {p p' : ℕ} (o : Maybe ℕ) → p ≡ p' → Reached js p o → Reached js p' o
  same_place o e r = subst (λ (p : ℕ). Reached js p o) e r

  pub reach-on : (xs ys : List ℕ) (at a : ℕ) (o : Maybe ℕ) → a ≡ ate xs js at → Reached js (ate ys js a) o → Reached js (ate (xs ++ ys) js at) o
  reach-on xs ys at a o e r = same_place o (ap (ate ys js) e ∙ sym (ate-append xs ys at)) r

  -- bytes that stand there, or do not
  module _ (b at : ℕ) (bs : List ℕ) (h : at < length js) where
    here : get_or js at 0 ≡ b → ate (b ∷ bs) js at ≡ ate bs js (suc at)
    here e = first_byte b bs at true (rw (lt-ltb at (length js) h, eq-eqb (get_or js at 0) b e))

    other : (get_or js at 0 ≡ b → ⊥) → ate (b ∷ bs) js at ≡ suc (length js)
    other f = first_byte b bs at false (rw (lt-ltb at (length js) h, ne_eqb (get_or js at 0) b f))

    more : drop at js ≡ get_or js at 0 ∷ drop (suc at) js
    more = drop-cons js at 0 h

  pub all_stand : (bs rest : List ℕ) (at : ℕ) → at ≤ length js → drop at js ≡ bs ++ rest → at + length bs ≡ ate bs js at
  unfolding ate
  all_stand [] rest at h e = omega arith
  all_stand (b ∷ bs) rest at h e =
      let l : at < length js = omega (arith, h, length-drop at js, ap length e) in
      let d : get_or js at 0 ∷ drop (suc at) js ≡ b ∷ (bs ++ rest) = sym (more b at bs l) ∙ e in
      let n : at + suc (length bs) ≡ suc at + length bs = omega arith in
      n ∙ all_stand bs rest (suc at) (omega (arith, l)) (ap (drop 1) d) ∙ sym (here b at bs l (ap (λ (x : List ℕ). get_or x 0 0) d))

  pub none_stand : (bs : List ℕ) (at : ℕ) → at ≤ length js → ((rest : List ℕ) → drop at js ≡ bs ++ rest → ⊥) → length js < ate bs js at
  unfolding ate
  none_stand [] at h f = absurd (f (drop at js) refl)
  none_stand (b ∷ bs) at h f =
      ⊎_elim
      (λ (l : at < length js).
      ⊎_elim
      (λ (e : get_or js at 0 ≡ b). rw (here b at bs l e)
      (none_stand bs (suc at) (omega (arith, l)) (λ rest g. f rest (more b at bs l ∙ ap (λ (x : ℕ). x ∷ drop (suc at) js) e ∙ ap (λ (x : List ℕ). b ∷ x) g))))
      (λ (n : get_or js at 0 ≡ b → ⊥). rw (other b at bs l n) (omega arith)) (same? (get_or js at 0) b))
      (λ (l : length js ≤ at). rw (past b bs at l) (omega arith)) (lt-or-ge at (length js))

  -- o where nothing stands
  pub unreached : {p : ℕ} {o : Maybe ℕ} → o ≡ None → length js < p → Reached js p o
  unreached {p} e h = subst (λ (o : Maybe ℕ). Reached js p o) (sym e) h

  -- a loop that eats: `whole` is the place behind all, `rest` what is left from place a on
  module _ {whole : ℕ} (a : ℕ) (rest : List ℕ) (i : whole ≡ ate rest js a) where
    pub cut-gone : (xs left : List ℕ) → rest ≡ xs ++ left → length js < ate xs js a → length js < whole
    cut-gone xs left e h = rw (i, e) (gone-on xs left a h)

    pub cut-on : (xs left : List ℕ) {b : ℕ} → rest ≡ xs ++ left → b ≡ ate xs js a → whole ≡ ate left js b
    cut-on xs left e h = i ∙ ap (λ (l : List ℕ). ate l js a) e ∙ ate-append xs left a ∙ ap (ate left js) (sym h)

    pub cut-end : rest ≡ [] → a ≡ whole
    unfolding ate
    cut-end e = sym (i ∙ ap (λ (l : List ℕ). ate l js a) e)
