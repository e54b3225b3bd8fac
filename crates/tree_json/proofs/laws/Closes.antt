-- Closing pairs in a text, both ways. Assumes nothing.
use Rattle.std.specs.Prelude.{ℕ, zero, suc, ◌≤◌, ◌<◌, ◌≡◌, refl, Bool, true, false, List, ◌∷◌, ◌++◌, leb, length, drop}
use Rattle.std.proofs.Common.{sym, ap, subst, ◌∙◌, arith, leb-true, le-leb}
use Rattle.tree_json.specs.Json.{behind_children, closings}
use Rattle.tree_json.specs.Reading.{ate, Took, took, closes_at}
use Rattle.tree_json.proofs.laws.Places.{Stands, ate-only, then, ate-back}

-- one pair more
abbrev more : Took → Took
more w = took (suc w.value) w.place

-- ── what was read are so many pairs ──
pub record Closed (c : ℕ) (js : List ℕ) (at : ℕ) (w : Took) : Type 0 where
  pub most : w.value ≤ c
  pub within : w.place ≤ length js
  pub pairs : drop at js ≡ closings w.value ++ drop w.place js

pub closes-only : (c : ℕ) (js : List ℕ) (at : ℕ) → at ≤ length js → Closed c js at (closes_at c js at)
unfolding closes_at closings
closes-only zero js at h = record { most = omega arith; within = h; pairs = refl }
closes-only (suc c) js at h = go (leb a (length js)) refl (closes-only c js a)
  where
    a : ℕ
    a = ate behind_children js at

    go : (x : Bool) → leb a (length js) ≡ x → (a ≤ length js → Closed c js a (closes_at c js a))
        → Closed (suc c) js at (elim x [ true ↦ more (closes_at c js a) | false ↦ took 0 at ])
    go true e k =
        let l : a ≤ length js = leb-true a (length js) e in
        let w : Closed c js a (closes_at c js a) = k l in
        record { most = omega arith; within = w.within; pairs = then (ate-only behind_children js at l) w.pairs }
    go false e k = record { most = omega arith; within = h; pairs = refl }

-- ── pairs that stand there are read: as many as may be, or behind them comes another byte ──
pub record Shut (m : ℕ) (js z : List ℕ) (w : Took) : Type 0 where
  pub count : w.value ≡ m
  pub behind : Stands js w.place z

pub closes-back : (c m : ℕ) (js z : List ℕ) (at : ℕ) → m ≤ c → (m < c → (y : List ℕ) → z ≡ 93 ∷ y → ⊥) → Stands js at (closings m ++ z) → Shut m js z (closes_at c js at)
unfolding closes_at closings
closes-back zero zero js z at l h t = record { count = refl; behind = t }
closes-back zero (suc m) js z at l h t = absurd (omega arith)
closes-back (suc c) zero js z at l h t = go (leb a (length js)) refl
  where
    a : ℕ
    a = ate behind_children js at

    go : (x : Bool) → leb a (length js) ≡ x → Shut 0 js z (elim x [ true ↦ more (closes_at c js a) | false ↦ took 0 at ])
    go true e = absurd (h (omega arith) (125 ∷ drop a js) (sym t.rest ∙ (ate-only behind_children js at (leb-true a (length js) e)).bytes))
    go false e = record { count = refl; behind = t }
closes-back (suc c) (suc m) js z at l h t =
    let a : ℕ = ate behind_children js at in
    let u : Stands js a (closings m ++ z) = ate-back behind_children t in
    let k : Shut m js z (closes_at c js a) = closes-back c m js z a (omega arith) (λ i. h (omega arith)) u in
    subst (λ (x : Bool). Shut (suc m) js z (elim x [ true ↦ more (closes_at c js a) | false ↦ took 0 at ])) (sym (le-leb a (length js) u.within))
    (record { count = ap suc k.count; behind = k.behind })
