-- Bytes at a place of a text, both ways: what was eaten stands there, and what stands there is eaten. A place past the end stays there.
-- Assumes nothing.
use Rattle.std.specs.Prelude.{ℕ, suc, ◌≤◌, ◌<◌, ◌≡◌, refl, Bool, true, false, ◌&&◌, List, [], ◌∷◌, ◌++◌, eqb, ltb, length, get_or, drop}
use Rattle.std.proofs.Common.{sym, ap, ap₂, subst, ◌∙◌, arith, length-drop, drop-cons, ltb-true, eqb-true, lt-ltb, eq-eqb}
use Rattle.base_facts.specs.laws.Bools.{and_left, and_right, and_both}
use Rattle.tree_json.specs.Reading.{ate}

-- the text from a place on
pub record Stands (js : List ℕ) (at : ℕ) (w : List ℕ) : Type 0 where
  pub within : at ≤ length js
  pub rest : drop at js ≡ w

-- ── what was eaten stood there ──
-- the bytes w stand at a place, and then those from the place behind
pub record Ate (w js : List ℕ) (at behind : ℕ) : Type 0 where
  pub within : at ≤ length js
  pub bytes : drop at js ≡ w ++ drop behind js

pub ate-only : (w js : List ℕ) (at : ℕ) → ate w js at ≤ length js → Ate w js at (ate w js at)
unfolding ate
ate-only [] js at h = record { within = h; bytes = refl }
ate-only (b ∷ w) js at h = go (ltb at (length js) && eqb (get_or js at 0) b) refl h (ate-only w js (suc at))
  where
    behind : Bool → ℕ
    behind x = elim x [ true ↦ ate w js (suc at) | false ↦ suc (length js) ]

    go : (x : Bool) → (ltb at (length js) && eqb (get_or js at 0) b) ≡ x → behind x ≤ length js
        → (ate w js (suc at) ≤ length js → Ate w js (suc at) (ate w js (suc at))) → Ate (b ∷ w) js at (behind x)
    go true e h k =
        let l : at < length js = ltb-true at (length js) (and_left (ltb at (length js)) (eqb (get_or js at 0) b) e) in
        record { within = omega arith; bytes = drop-cons js at 0 l ∙ ap₂ ◌∷◌ (eqb-true (get_or js at 0) b (and_right (ltb at (length js)) (eqb (get_or js at 0) b) e)) (k h).bytes }
    go false e h k = absurd (omega arith)

-- then those behind it
pub then : {w js : List ℕ} {at behind : ℕ} {z : List ℕ} → Ate w js at behind → drop behind js ≡ z → drop at js ≡ w ++ z
then {w} a e = a.bytes ∙ ap (λ (l : List ℕ). w ++ l) e

-- ── what stands there is eaten ──
pub record Next (js : List ℕ) (at b : ℕ) (w : List ℕ) : Type 0 where
  pub inside : at < length js
  pub byte : get_or js at 0 ≡ b
  pub behind : Stands js (suc at) w

pub next : {js : List ℕ} {at b : ℕ} {w : List ℕ} → Stands js at (b ∷ w) → Next js at b w
next {js} {at} {b} {w} t =
    let l : at < length js = omega (arith, length-drop at js, ap length t.rest) in
    let e : get_or js at 0 ∷ drop (suc at) js ≡ b ∷ w = sym (drop-cons js at 0 l) ∙ t.rest in
    record { inside = l; byte = cc; behind = record { within = l; rest = cc } }

pub ate-back : (w : List ℕ) {js : List ℕ} {at : ℕ} {z : List ℕ} → Stands js at (w ++ z) → Stands js (ate w js at) z
unfolding ate
ate-back [] t = t
ate-back (b ∷ w) {js} {at} {z} t =
    let n : Next js at b (w ++ z) = next t in
    let e : (ltb at (length js) && eqb (get_or js at 0) b) ≡ true = and_both _ _ (lt-ltb at (length js) n.inside) (eq-eqb (get_or js at 0) b n.byte) in
    subst (λ (x : Bool). Stands js (elim x [ true ↦ ate w js (suc at) | false ↦ suc (length js) ]) z) (sym e) (ate-back w n.behind)
