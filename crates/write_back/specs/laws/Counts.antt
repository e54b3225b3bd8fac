-- Terminals that all stand in a list are, each once, no more than the list has. Assumes nothing.
use Rattle.std.specs.Prelude.{ℕ, suc, ◌≤◌, ◌<◌, ◌≡◌, Bool, cond, ◌||◌}
use Rattle.std.proofs.Math.Path.{refl}
use Rattle.std.proofs.Common.{ap, subst, true≢false}
use Rattle.std.proofs.Math.Bool.{true, false}
use Rattle.std.proofs.lemmas.Bool.{false≢true}
use mathlib.Core.List.{List, [], ◌∷◌}
use native.Mathlib.Omega.{arith}
use Rattle.std.proofs.Math.ListN.{length}
use Rattle.base_facts.specs.laws.Bools.{or-fails-right}
use Rattle.read_tokens.specs.Token.{Leaf, any}
use Rattle.grammar.specs.Exp.{Rule}
use Rattle.grammar.specs.Same.{same_leaf, is_in, index_of, new_in}
use Rattle.grammar.specs.Numbers.{leaves_of, terminals_of}
use Rattle.grammar_table.specs.laws.Rows.{All, index-out}
use Rattle.grammar.specs.laws.Same.{leaf-sound, leaf-refl}

-- how many of a list are not seen
unfoldable fresh : List Leaf → List Leaf → ℕ
fresh seen [] = 0
fresh seen (y ∷ l) = cond (is_in same_leaf y seen) (fresh seen l) (suc (fresh seen l))

less_by : (a b : Bool) (i j : ℕ) → i ≤ j → (a ≡ false → b ≡ false) → cond a i (suc i) ≤ cond b j (suc j)
less_by true true i j h f = h
less_by true false i j h f = omega arith
less_by false true i j h f = absurd (true≢false (f refl))
less_by false false i j h f = omega arith

fewer : (x : Leaf) (seen l : List Leaf) → fresh (x ∷ seen) l ≤ fresh seen l
unfolding fresh is_in
fewer x seen [] = omega arith
fewer x seen (y ∷ l) = less_by (same_leaf y x || is_in same_leaf y seen) (is_in same_leaf y seen) (fresh (x ∷ seen) l) (fresh seen l) (fewer x seen l) (λ e. or-fails-right (same_leaf y x) (is_in same_leaf y seen) e)

abbrev count : Bool → ℕ → ℕ
count b i = cond b i (suc i)

one_fewer : (x : Leaf) (seen l : List Leaf) → is_in same_leaf x l ≡ true → is_in same_leaf x seen ≡ false → suc (fresh (x ∷ seen) l) ≤ fresh seen l
unfolding fresh is_in
one_fewer x seen [] e f = absurd (false≢true e)
one_fewer x seen (y ∷ l) e f = go (same_leaf x y) refl e (λ p. one_fewer x seen l p f)
  where
    step : (a b : Bool) (i j : ℕ) → suc i ≤ j → suc (count (a || b) i) ≤ count b j
    step true true i j h = h
    step true false i j h = omega arith
    step false true i j h = h
    step false false i j h = omega arith

    here : x ≡ y → suc (count (same_leaf y x || is_in same_leaf y seen) (fresh (x ∷ seen) l)) ≤ count (is_in same_leaf y seen) (fresh seen l)
    here q =
        let p : same_leaf y x ≡ true = subst (λ (z : Leaf). same_leaf z x ≡ true) q (leaf-refl x) in
        let o : is_in same_leaf y seen ≡ false = subst (λ (z : Leaf). is_in same_leaf z seen ≡ false) q f in
        let u : count (same_leaf y x || is_in same_leaf y seen) (fresh (x ∷ seen) l) ≡ fresh (x ∷ seen) l = ap (λ (b : Bool). count (b || is_in same_leaf y seen) (fresh (x ∷ seen) l)) p in
        let v : count (is_in same_leaf y seen) (fresh seen l) ≡ suc (fresh seen l) = ap (λ (b : Bool). count b (fresh seen l)) o in
        omega (arith, u, v, fewer x seen l)

    go : (b : Bool) → same_leaf x y ≡ b → (b || is_in same_leaf x l) ≡ true → (is_in same_leaf x l ≡ true → suc (fresh (x ∷ seen) l) ≤ fresh seen l) → suc (count (same_leaf y x || is_in same_leaf y seen) (fresh (x ∷ seen) l)) ≤ count (is_in same_leaf y seen) (fresh seen l)
    go true q e r = here (leaf-sound x y q)
    go false q e r = step (same_leaf y x) (is_in same_leaf y seen) (fresh (x ∷ seen) l) (fresh seen l) (r e)

fresh-all : (l : List Leaf) → fresh [] l ≡ length l
unfolding fresh is_in
fresh-all [] = refl
fresh-all (y ∷ l) = ap suc (fresh-all l)

module _ (l : List Leaf) where
  abbrev pub In : Leaf → Type 0
  In x = is_in same_leaf x l ≡ true

  new-few : (xs seen : List Leaf) → All In xs → length (new_in same_leaf seen xs) ≤ fresh seen l
  unfolding new_in
  new-few [] seen a = omega arith
  new-few (x ∷ xs) seen a = by (is_in same_leaf x seen) refl (new-few xs seen a.1) (new-few xs (x ∷ seen) a.1)
    where
      by : (b : Bool) → is_in same_leaf x seen ≡ b → length (new_in same_leaf seen xs) ≤ fresh seen l → length (new_in same_leaf (x ∷ seen) xs) ≤ fresh (x ∷ seen) l
          → length {A = Leaf} (elim b as (λ c. List Leaf) [ true ↦ new_in same_leaf seen xs | false ↦ x ∷ new_in same_leaf (x ∷ seen) xs ]) ≤ fresh seen l
      by true e p q = p
      by false e p q = omega (arith, q, one_fewer x seen l a.0 e)

  pub few-terminals : (rs : List Rule) → In any → All In (leaves_of rs) → length (terminals_of rs) ≤ length l
  unfolding terminals_of new_in is_in
  few-terminals rs d a = let u : length (any ∷ new_in same_leaf (any ∷ []) (leaves_of rs)) ≤ fresh [] l = new-few (any ∷ leaves_of rs) [] (d, a) in omega (arith, u, fresh-all l)

  -- a terminal with a number is in the list
  pub in-by : (x : Leaf) → index_of same_leaf x l < length l → In x
  in-by x h = go (is_in same_leaf x l) refl
    where
      go : (b : Bool) → is_in same_leaf x l ≡ b → In x
      go true e = e
      go false e = absurd (omega (arith, h, index-out same_leaf x l e))
