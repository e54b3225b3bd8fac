-- What is said of all expressions, one expression after the other. Assumes nothing.
use Rattle.std.specs.Prelude.{ℕ, suc, ◌+◌, ◌≡◌, refl, List, [], ◌∷◌, ◌++◌, length}
use Rattle.std.proofs.Common.{sym, ap, ◌∙◌, append_assoc, append-nil, arith, add-one}
use Rattle.base_rounds.specs.Flow.{Edge}
use Rattle.base_rounds.specs.laws.Flow.{Inside}
use Rattle.grammar.specs.Parts.{Part}
use Rattle.grammar_table.specs.Table.{up_to}
use Rattle.grammar_table.specs.laws.Places.{up_to-long}
use Rattle.lake_rules.specs.Flows.{over_parts}

over-more : {A : Type 0} (f : ℕ → Part → List A) (i : ℕ) (ps : List Part) (p : Part) → over_parts f i (ps ++ (p ∷ [])) ≡ over_parts f i ps ++ f (i + length ps) p
unfolding over_parts
over-more f i [] p = append-nil (f i p) ∙ ap (λ (j : ℕ). f j p) (let q : i ≡ i + 0 = omega arith in q)
over-more f i (q ∷ ps) p =
    ap (λ l. f i q ++ l) (over-more f (suc i) ps p ∙ ap (λ (j : ℕ). over_parts f (suc i) ps ++ f j p) (let e : suc i + length ps ≡ i + suc (length ps) = omega arith in e))
    ∙ sym (append_assoc (f i q) (over_parts f (suc i) ps) (f (i + suc (length ps)) p))

pub over-next : {A : Type 0} (f : ℕ → Part → List A) (part : ℕ → Part) (n : ℕ) → over_parts f 0 (up_to part (n + 1)) ≡ over_parts f 0 (up_to part n) ++ f n (part n)
unfolding up_to
over-next f part n = rw add-one (over-more f 0 (up_to part n) (part n) ∙ ap (λ (j : ℕ). over_parts f 0 (up_to part n) ++ f j (part n)) (let e : length (up_to part n) ≡ n = up_to-long part n in let q : 0 + length (up_to part n) ≡ n = omega arith in q))

pub over_none : {A : Type 0} (f : ℕ → Part → List A) (part : ℕ → Part) → over_parts f 0 (up_to part 0) ≡ []
unfolding up_to over_parts
over_none f part = refl

-- edges that lie among n
pub inside-append : (n : ℕ) (xs ys : List Edge) → Inside n xs → Inside n ys → Inside n (xs ++ ys)
inside-append n [] ys h k = k
inside-append n (x ∷ xs) ys h k = (h.0, h.1, inside-append n xs ys h.2 k)
