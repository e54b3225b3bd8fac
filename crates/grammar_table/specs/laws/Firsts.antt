-- Adding one thing after the other, each where it is new, gives the list of first appearances (01, Notation: "by first appearance"). Assumes nothing.
use Rattle.std.specs.Prelude.{◌≡◌, Bool, ◌||◌}
use Rattle.std.proofs.Math.Path.{refl, sym, ap}
use Rattle.std.proofs.Common.{◌∙◌}
use Rattle.std.proofs.Math.Bool.{true, false}
use mathlib.Core.List.{List, [], ◌∷◌, ◌++◌, append_assoc, append-nil}
use Rattle.base_facts.specs.laws.Bools.{or-false}
use Rattle.grammar.specs.Same.{is_in, new_in}
use Rattle.grammar_table.specs.laws.Rows.{also, adds, also-in, also-new, in-append}

or_comm : (a b : Bool) → (a || b) ≡ (b || a)
or_comm true true = refl
or_comm true false = refl
or_comm false true = refl
or_comm false false = refl

module _ {A : Type 0} (same : A → A → Bool) where
  abbrev new_by : Bool → A → List A → List A → List A
  new_by b x seen xs = elim b [ true ↦ new_in same seen xs | false ↦ x ∷ new_in same (x ∷ seen) xs ]

  new_is : (x : A) (seen xs : List A) (b : Bool) → is_in same x seen ≡ b → new_in same seen (x ∷ xs) ≡ new_by b x seen xs
  unfolding new_in
  new_is x seen xs b e = ap (λ (c : Bool). new_by c x seen xs) e

  one_in : (y x : A) → is_in same y (x ∷ []) ≡ same y x
  unfolding is_in
  one_in y x = or-false (same y x)

  cons-in : (y x : A) (l : List A) → is_in same y (x ∷ l) ≡ (same y x || is_in same y l)
  unfolding is_in
  cons-in y x l = refl

  pub adds-new : (l seen xs : List A) → ((x : A) → is_in same x seen ≡ is_in same x l) → adds same l xs ≡ l ++ new_in same seen xs
  unfolding adds new_in
  adds-new l seen [] h = sym (append-nil l)
  adds-new l seen (x ∷ xs) h = by (is_in same x l) refl (adds-new l seen xs h) (adds-new (l ++ (x ∷ [])) (x ∷ seen) xs)
    where
      by : (b : Bool) → is_in same x l ≡ b → adds same l xs ≡ l ++ new_in same seen xs
          → (((y : A) → is_in same y (x ∷ seen) ≡ is_in same y (l ++ (x ∷ []))) → adds same (l ++ (x ∷ [])) xs ≡ (l ++ (x ∷ [])) ++ new_in same (x ∷ seen) xs)
          → adds same (also same x l) xs ≡ l ++ new_in same seen (x ∷ xs)
      by true e f g = ap (λ (m : List A). adds same m xs) (also-in same x l e) ∙ f ∙ ap (λ (m : List A). l ++ m) (sym (new_is x seen xs true (h x ∙ e)))
      by false e f g =
          ap (λ (m : List A). adds same m xs) (also-new same x l e)
          ∙ g (λ y. cons-in y x seen ∙ ap (λ (b : Bool). same y x || b) (h y) ∙ or_comm (same y x) (is_in same y l) ∙ sym (in-append same y l (x ∷ []) ∙ ap (λ (b : Bool). is_in same y l || b) (one_in y x)))
          ∙ append_assoc l (x ∷ []) (new_in same (x ∷ seen) xs)
          ∙ ap (λ (m : List A). l ++ m) (sym (new_is x seen xs false (h x ∙ e)))

  -- what was there stays in front
  pub adds-front : (l xs : List A) → adds same l xs ≡ l ++ new_in same l xs
  adds-front l xs = adds-new l l xs (λ x. refl)
