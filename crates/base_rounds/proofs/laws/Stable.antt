-- After as many rounds as the greatest size nothing changes any more. Assumes nothing.
use Rattle.std.specs.Prelude.{◌≡◌, refl, ℕ, zero, suc, ◌+◌, ◌-◌, ◌≤◌}
use Rattle.std.proofs.Common.{sym, ap, ◌∙◌, subst, arith}
use Rattle.base_rounds.specs.Rounds.{iter, First}
use Rattle.base_rounds.specs.laws.Fix.{Lattice, rounds-bound, first-exists}

-- from the first equal round on all rounds are equal
stays : {S : Type 0} (F : S → S) (b : S) (m : ℕ) → First F b m → (d : ℕ) → iter F b (d + m) ≡ iter F b m
stays F b m f zero = let e : 0 + m ≡ m = omega arith in ap (λ (k : ℕ). iter F b k) e
stays F b m f (suc d) = let e : suc d + m ≡ suc (d + m) = omega arith in ap (λ (k : ℕ). iter F b k) e ∙ ap F (stays F b m f d) ∙ f.stops

pub stays-from : {S : Type 0} (F : S → S) (b : S) (m k : ℕ) → First F b m → m ≤ k → iter F b k ≡ iter F b m
stays-from F b m k f h = let e : k ≡ k - m + m = omega arith in ap (λ (j : ℕ). iter F b j) e ∙ stays F b m f (k - m)

module _ {S : Type 0} (L : Lattice S) (F : S → S) (b : S)
    (good-b : L.Good b) (good-F : (x : S) → L.Good x → L.Good (F x))
    (mono : (x y : S) → L.Good x → L.Good y → L.Le x y → L.Le (F x) (F y))
    (start : (x : S) → L.Good x → L.Le b x) (same : (x y : S) → Dec (x ≡ y)) where
  pub stable : (k : ℕ) → L.top ≤ k → F (iter F b k) ≡ iter F b k
  stable k h =
      let f : (m : ℕ) × First F b m = first-exists L F b good-b good-F mono start same in
      let l : f.0 ≤ L.top = rounds-bound L F b good-b good-F mono start f.0 f.1.before in
      let e : iter F b k ≡ iter F b f.0 = stays-from F b f.0 k f.1 (omega arith) in
      ap F e ∙ f.1.stops ∙ sym e
