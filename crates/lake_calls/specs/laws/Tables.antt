-- What is computed from a table's words is what the bodies of its symbols say. Assumes nothing.
use Rattle.std.specs.Prelude.{ℕ, zero, suc, ◌≡◌, refl, Bool, List, [], ◌∷◌, ◌++◌, map, length}
use Rattle.std.proofs.Common.{sym, ap, ◌∙◌}
use Rattle.grammar.specs.Exp.{Exp}
use Rattle.grammar_table.specs.Table.{up_to, symbol_word, symbol_count}
use Rattle.lake_rules.specs.Beginning.{marked, marks_of}
use Rattle.lake_plain.specs.Calls.{first_calls, calls_of, loop_from, loop, ranks_of, order_from, order}
use Rattle.grammar_table.specs.Trees.{tree_of, bodies_of}
use Rattle.grammar_table.specs.laws.Places.{up_to-long}

map-append : {A B : Type 0} (f : A → B) (xs ys : List A) → map f (xs ++ ys) ≡ map f xs ++ map f ys
map-append f [] ys = refl
map-append {B = B} f (x ∷ xs) ys = ap (λ (l : List B). f x ∷ l) (map-append f xs ys)

map-up_to : {A B : Type 0} (f : A → B) (g : ℕ → A) (n : ℕ) → up_to (λ i. f (g i)) n ≡ map f (up_to g n)
unfolding up_to
map-up_to f g zero = refl
map-up_to {B = B} f g (suc n) = ap (λ (l : List B). l ++ (f (g n) ∷ [])) (map-up_to f g n) ∙ sym (map-append f (up_to g n) (g n ∷ []))

bodies-are : (t : List ℕ) → up_to (λ r. tree_of t (symbol_word t r 1)) (symbol_count t) ≡ bodies_of t
unfolding bodies_of
bodies-are t = refl

-- what `calls_of` stores, where the marks are those of the bodies
pub calls_are : (t : List ℕ) (ms : List Bool) → ms ≡ marks_of (bodies_of t) → up_to (λ i. first_calls (marked ms) (tree_of t (symbol_word t i 1))) (symbol_count t) ≡ calls_of (bodies_of t)
unfolding calls_of
calls_are t ms e =
    ap (λ (l : List Bool). up_to (λ i. first_calls (marked l) (tree_of t (symbol_word t i 1))) (symbol_count t)) e
    ∙ map-up_to (first_calls (marked (marks_of (bodies_of t)))) (λ i. tree_of t (symbol_word t i 1)) (symbol_count t) ∙ ap (map (first_calls (marked (marks_of (bodies_of t))))) (bodies-are t)

-- what `loop_at` finds
pub loop-is : (bodies : List (Exp ℕ)) → loop_from (calls_of bodies) (length (calls_of bodies)) 0 ≡ loop bodies
unfolding loop
loop-is bodies = refl

-- what `order` stores, from the ranks that `ranks` stores
pub order_is : (bodies : List (Exp ℕ)) → order_from (ranks_of (calls_of bodies)) (length (ranks_of (calls_of bodies))) 0 ≡ order bodies
unfolding order
order_is bodies = refl

pub ranks-long : (calls : List ℕ) → length (ranks_of calls) ≡ length calls
unfolding ranks_of
ranks-long calls = up_to-long _ (length calls)
