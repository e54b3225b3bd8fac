-- The first equal round of a system that is written out, by computation. Assumes nothing.
use Rattle.std.specs.Prelude.{◌≡◌, refl, List, [], ◌∷◌, Bool, true, false, ◌&&◌, not, ℕ, zero, suc, ◌+◌, ◌^◌, ◌<◌, length, get_or, T, eqb, ltb}
use Rattle.std.proofs.Common.{sym, ap, ap₂, ◌∙◌, subst, arith, eqb→eq, T_not, ltb→lt}
use Rattle.std.proofs.Math.Dec.{eqb_refl}
use Rattle.base_words.specs.Set.{empty}
use Rattle.base_rounds.specs.Flow.{same_words, same_sets}
use Rattle.base_rounds.specs.Rounds.{First, iter}
use Rattle.base_rounds.specs.laws.Sys.{round_of, round_at, empties}
use Rattle.base_rounds.specs.laws.Pair.{Set2}
use Rattle.base_rounds.specs.laws.Cells.{Every}

both : (a b : Bool) → T (a && b) → T a × T b
both true true h = (tt, tt)
both true false h = absurd h
both false b h = absurd h

-- s is left by k rounds and not by one fewer
module _ {S : Type 0} (same : S → S → Bool) (sound : (x y : S) → T (same x y) → x ≡ y) (whole : (x : S) → T (same x x)) (F : S → S) where
  abbrev pub run : ℕ → S → Bool
  run zero s = same (F s) s
  run (suc k) s = let n = F s in not (same n s) && run k n

  shift : (b : S) (j : ℕ) → iter F (F b) j ≡ F (iter F b j)
  shift b zero = refl
  shift b (suc j) = ap F (shift b j)

  pub run-first : (k : ℕ) (b : S) → T (run k b) → First F b k
  run-first zero b h = record { stops = sound (F b) b h; before = λ j p. let z : ⊥ = omega arith in absurd z }
  run-first (suc k) b h =
      let p = both (not (same (F b) b)) (run k (F b)) h in
      let f : First F (F b) k = run-first k (F b) p.1 in
      record { stops = subst (λ (x : S). F x ≡ x) (shift b k) f.stops; before = go p.0 f }
    where
      go : T (not (same (F b) b)) → First F (F b) k → (j : ℕ) → j < suc k → F (iter F b j) ≡ iter F b j → ⊥
      go n f zero l e = T_not (same (F b) b) n (subst (λ (x : S). T (same x b)) (sym e) (whole b))
      go n f (suc j) l e = f.before j (omega arith) (subst (λ (x : S). F x ≡ x) (sym (shift b j)) e)

pub words-sound : (s t : List ℕ) → T (same_words s t) → s ≡ t
words-sound [] [] h = refl
words-sound [] (y ∷ t) h = absurd h
words-sound (x ∷ s) [] h = absurd h
words-sound (x ∷ s) (y ∷ t) h = let p = both (eqb x y) (same_words s t) h in ap₂ (λ (u : ℕ) (v : List ℕ). u ∷ v) (eqb→eq x y p.0) (words-sound s t p.1)

pub sets-sound : (s t : List (List ℕ)) → T (same_sets s t) → s ≡ t
sets-sound [] [] h = refl
sets-sound [] (y ∷ t) h = absurd h
sets-sound (x ∷ s) [] h = absurd h
sets-sound (x ∷ s) (y ∷ t) h = let p = both (same_words x y) (same_sets s t) h in ap₂ (λ (u : List ℕ) (v : List (List ℕ)). u ∷ v) (words-sound x y p.0) (sets-sound s t p.1)

join : (a b : Bool) → T a → T b → T (a && b)
join true true p q = tt
join true false p q = q
join false b p q = p

pub words-whole : (s : List ℕ) → T (same_words s s)
words-whole [] = tt
words-whole (x ∷ s) = join (eqb x x) (same_words s s) (eqb_refl x) (words-whole s)

pub sets-whole : (s : List (List ℕ)) → T (same_sets s s)
sets-whole [] = tt
sets-whole (x ∷ s) = join (same_words x x) (same_sets s s) (words-whole x) (sets-whole s)

-- a chain of 16 cells: the mark of the first reaches the last in 16 rounds
chain-src : List ℕ
chain-src = 0 ∷ 1 ∷ 2 ∷ 3 ∷ 4 ∷ 5 ∷ 6 ∷ 7 ∷ 8 ∷ 9 ∷ 10 ∷ 11 ∷ 12 ∷ 13 ∷ 14 ∷ []

chain-dst : List ℕ
chain-dst = 1 ∷ 2 ∷ 3 ∷ 4 ∷ 5 ∷ 6 ∷ 7 ∷ 8 ∷ 9 ∷ 10 ∷ 11 ∷ 12 ∷ 13 ∷ 14 ∷ 15 ∷ []

chain-base : List (List ℕ)
chain-base = (9223372036854775808 ∷ 1 ∷ []) ∷ empty ∷ empty ∷ empty ∷ empty ∷ empty ∷ empty ∷ empty ∷ empty ∷ empty ∷ empty ∷ empty ∷ empty ∷ empty ∷ empty ∷ (1 ∷ 0 ∷ []) ∷ []

chain-count : First (round_of chain-src chain-dst chain-base) (empties (length chain-base)) 16
unfolding chain-src chain-dst chain-base
chain-count = run-first same_sets sets-sound sets-whole (round_of chain-src chain-dst chain-base) 16 (empties (length chain-base)) tt

-- ---- what a caller with tables that are written out has to show, by computation
abbrev pub all_below : ℕ → List ℕ → Bool
all_below n [] = true
all_below n (x ∷ l) = ltb x n && all_below n l

pub below-by-test : (n : ℕ) (l : List ℕ) → T (all_below n l) → (e : ℕ) → e < length l → get_or l e 0 < n
below-by-test n [] h e p = let z : ⊥ = omega arith in absurd z
below-by-test n (x ∷ l) h zero p = ltb→lt x n (both (ltb x n) (all_below n l) h).0
below-by-test n (x ∷ l) h (suc e) p = below-by-test n l (both (ltb x n) (all_below n l) h).1 e (omega arith)

abbrev pub fits2 : ℕ → ℕ → List ℕ → Bool
fits2 r t s = eqb (length s) 2 && (ltb (get_or s 0 0) (2 ^ r) && ltb (get_or s 1 0) (2 ^ t))

abbrev pub all_fit : ℕ → ℕ → List (List ℕ) → Bool
all_fit r t [] = true
all_fit r t (x ∷ l) = fits2 r t x && all_fit r t l

fit-by-test : (r t : ℕ) (s : List ℕ) → T (fits2 r t s) → Set2 r t s
fit-by-test r t s h =
    let p = both (eqb (length s) 2) (ltb (get_or s 0 0) (2 ^ r) && ltb (get_or s 1 0) (2 ^ t)) h in
    let q = both (ltb (get_or s 0 0) (2 ^ r)) (ltb (get_or s 1 0) (2 ^ t)) p.1 in
    record { two = eqb→eq (length s) 2 p.0; first = ltb→lt (get_or s 0 0) (2 ^ r) q.0; second = ltb→lt (get_or s 1 0) (2 ^ t) q.1 }

each-by-test : (r t : ℕ) (l : List (List ℕ)) → T (all_fit r t l) → (i : ℕ) → i < length l → Set2 r t (get_or l i [])
each-by-test r t [] h i p = let z : ⊥ = omega arith in absurd z
each-by-test r t (x ∷ l) h zero p = fit-by-test r t x (both (fits2 r t x) (all_fit r t l) h).0
each-by-test r t (x ∷ l) h (suc i) p = each-by-test r t l (both (fits2 r t x) (all_fit r t l) h).1 i (omega arith)

pub every-by-test : (r t : ℕ) (l : List (List ℕ)) → T (all_fit r t l) → Every (Set2 r t) [] (length l) l
every-by-test r t l h = record { long = refl; each = each-by-test r t l h }
