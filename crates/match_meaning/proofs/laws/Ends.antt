-- A lake at the text's end (02, §4): it succeeds only by its own rule or by water; without a rule and without water it fails. Assumes nothing.
use Rattle.std.specs.Prelude.{ℕ, suc, ◌≤◌, ◌≡◌, refl, ◌⊎◌, List, length}
use Rattle.std.proofs.Common.{subst, inl, inr, arith}
use Rattle.std.proofs.Math.Option.{Option, none}
use Rattle.grammar.specs.Exp.{Exp}
use Rattle.match_meaning.specs.Meaning.{Meant, Node, lake, inside, own, wet, Tries, by-own, by-water, by-skip, stopped, at-end, own-none, dry}

module _ (g : Meant) (s : List ℕ) where
  pub end-fails : {d p m : ℕ} {o : Option (Exp ℕ)} {ss : List (Exp ℕ)} {ns : List Node} → length s ≤ p → Tries g s d (inside (lake o ss)) p (suc m) ns
      → Tries g s d (own o) p (suc m) ns ⊎ Tries g s d (wet g.water) p (suc m) ns
  end-fails h (by-own t) = inl t
  end-fails h (by-water t u) = inr u
  end-fails h (by-skip t u v l) = absurd (omega arith)

  no-rule : {d p x : ℕ} {ns : List Node} → Tries g s d (own none) p x ns → x ≡ 0
  no-rule own-none = refl

  no-water : {d p x : ℕ} {ns : List Node} → Tries g s d (wet none) p x ns → x ≡ 0
  no-water dry = refl

  pub bare-fails : {d p x : ℕ} {ss : List (Exp ℕ)} {ns : List Node} → g.water ≡ none → length s ≤ p → Tries g s d (inside (lake none ss)) p x ns → x ≡ 0
  bare-fails e h (by-own t) = no-rule t
  bare-fails {d} {p} {x} {ss} {ns} e h (by-water t u) = no-water (subst (λ (o : Option (Exp ℕ)). Tries g s d (wet o) p x ns) e u)
  bare-fails e h (by-skip t u v l) = absurd (omega arith)
  bare-fails e h (stopped t u v) = refl
  bare-fails e h (at-end t u v l) = refl
