-- What is computed of first calls is what 01 says of them, both ways: the word of an expression has a symbol exactly if the expression first-calls it, and
-- `loop` finds the smallest symbol that reaches itself, exactly if there is one. Assumes nothing.
use Rattle.std.specs.Prelude.{ℕ, zero, suc, ◌+◌, ◌^◌, ◌≤◌, ◌<◌, refl, Bool, true, false, cond, List, [], ◌∷◌, map, ◌↔◌, ◌⊎◌, length, get_or}
use Rattle.std.proofs.Math.Path.{◌≡◌}
use Rattle.std.proofs.Common.{ap, ◌∙◌, subst, sym as flip, inl, inr, ⊎_elim, eq-eqb}
use Rattle.std.proofs.lemmas.Bool.{false≢true}
use Rattle.std.proofs.Math.Option.{Option, none, some, some-injective}
use native.Mathlib.Omega.{arith}
use Rattle.std.proofs.Math.Decide.{ℕ_discrete}
use Rattle.std.proofs.Math.ListN.{length-map}
use Rattle.std.specs.Int.Bits.{bit_or}
use Rattle.read_tokens.specs.Token.{any}
use Rattle.grammar.specs.Exp.{Exp, sym, ter, seq, alt, opt, star, plus, ahead, never}
use Rattle.grammar.specs.Empty.{has_empty}
use Rattle.base_words.specs.Set.{bit}
use Rattle.base_words.specs.laws.Members.{bit-lt, bit-pow-same, bit-pow-other}
use Rattle.base_words.specs.laws.Order.{sub-or-l, sub-or-r}
use Rattle.lake_rules.specs.Beginning.{marked, marks_of}
use Rattle.lake_plain.specs.Calls.{first_calls, calls_of, holds, reach, loop_from, loop}
use Rattle.lake_plain.specs.Loops.{Calls, FirstCalls, LeadsTo, at_once, and-on, OnLoop, SmallestLoop}
use Rattle.lake_plain.proofs.laws.Ranks.{member}
use Rattle.lake_plain.proofs.laws.Reaches.{Called, either, none_in, reach-is, Found, found}

pub up-l : (u v x : ℕ) → holds u x ≡ true → holds (bit_or u v) x ≡ true
up-l u v x h = let e : bit u x ≡ 1 = member u x h in eq-eqb (bit (bit_or u v) x) 1 (omega (arith, sub-or-l u v x, e, bit-lt (bit_or u v) x))

pub up-r : (u v x : ℕ) → holds v x ≡ true → holds (bit_or u v) x ≡ true
up-r u v x h = let e : bit v x ≡ 1 = member v x h in eq-eqb (bit (bit_or u v) x) 1 (omega (arith, sub-or-r u v x, e, bit-lt (bit_or u v) x))

-- ── first calls as a relation and as a word ──
pub called : (m : ℕ → Bool) (e : Exp ℕ) (x : ℕ) → Calls m e x → holds (first_calls m e) x ≡ true
unfolding first_calls
called m (sym r) x c = eq-eqb (bit (2 ^ r) x) 1 (ap (λ (y : ℕ). bit (2 ^ r) y) c ∙ bit-pow-same r)
called m (ter l) x c = absurd c
called m (seq a b) x (inl c) = up-l (first_calls m a) (cond (has_empty m a) (first_calls m b) 0) x (called m a x c)
called m (seq a b) x (inr c) =
    up-r (first_calls m a) (cond (has_empty m a) (first_calls m b) 0) x
    (subst (λ (t : Bool). holds (cond t (first_calls m b) 0) x ≡ true) (flip c.0) (called m b x c.1))
called m (alt a b) x (inl c) = up-l (first_calls m a) (first_calls m b) x (called m a x c)
called m (alt a b) x (inr c) = up-r (first_calls m a) (first_calls m b) x (called m b x c)
called m (opt a) x c = called m a x c
called m (star a) x c = called m a x c
called m (plus a) x c = called m a x c
called m (ahead a) x c = called m a x c
called m (never a) x c = called m a x c

-- one symbol's word has that symbol alone
only_one : (r x : ℕ) → holds (2 ^ r) x ≡ true → x ≡ r
only_one r x h = go (ℕ_discrete r x)
  where
    go : Dec (r ≡ x) → x ≡ r
    go (yes e) = flip e
    go (no n) = let e : bit (2 ^ r) x ≡ 1 = member (2 ^ r) x h in let f : bit (2 ^ r) x ≡ 0 = bit-pow-other r x n in absurd (omega (arith, e, f))

-- the right of a sequence is called only if its left has ε
only_if : (b : Bool) (w x : ℕ) → holds (cond b w 0) x ≡ true → (b ≡ true) × (holds w x ≡ true)
only_if true w x h = (refl, h)
only_if false w x h = absurd (none_in x h)

calls-it : (m : ℕ → Bool) (e : Exp ℕ) (x : ℕ) → holds (first_calls m e) x ≡ true → Calls m e x
unfolding first_calls
calls-it m (sym r) x h = only_one r x h
calls-it m (ter l) x h = absurd (none_in x h)
calls-it m (seq a b) x h =
    ⊎_elim (λ p. inl (calls-it m a x p)) (λ p. let q = only_if (has_empty m a) (first_calls m b) x p in inr (q.0, calls-it m b x q.1))
    (either (first_calls m a) (cond (has_empty m a) (first_calls m b) 0) x h)
calls-it m (alt a b) x h = ⊎_elim (λ p. inl (calls-it m a x p)) (λ p. inr (calls-it m b x p)) (either (first_calls m a) (first_calls m b) x h)
calls-it m (opt a) x h = calls-it m a x h
calls-it m (star a) x h = calls-it m a x h
calls-it m (plus a) x h = calls-it m a x h
calls-it m (ahead a) x h = calls-it m a x h
calls-it m (never a) x h = calls-it m a x h

-- THE FIRST CALLS of an expression: just those of 01's rule
pub calls-exact : (m : ℕ → Bool) (e : Exp ℕ) (x : ℕ) → (holds (first_calls m e) x ≡ true) ↔ Calls m e x
calls-exact m e x = (calls-it m e x, called m e x)

-- what a list's map has inside the list
pub called_at : (bodies : List (Exp ℕ)) (f : Exp ℕ → ℕ) (d : Exp ℕ) (r : ℕ) → r < length bodies → get_or (map f bodies) r 0 ≡ f (get_or bodies r d)
called_at [] f d r l = absurd (omega arith)
called_at (e ∷ es) f d zero l = refl
called_at (e ∷ es) f d (suc r) l = called_at es f d r (omega arith)

module _ (bodies : List (Exp ℕ)) where
  abbrev m : ℕ → Bool
  m = marked (marks_of bodies)

  abbrev calls : List ℕ
  calls = calls_of bodies

  pub calls-long : length calls ≡ length bodies
  unfolding calls_of
  calls-long = length-map bodies (first_calls m)

  word_at : (r : ℕ) → r < length bodies → get_or calls r 0 ≡ first_calls m (get_or bodies r (ter any))
  unfolding calls_of
  word_at r l = called_at bodies (first_calls m) (ter any) r l

  to_word : (r x : ℕ) → FirstCalls bodies r x → Called calls r x
  to_word r x h = (omega (arith, h.0, calls-long), subst (λ (w : ℕ). holds w x ≡ true) (flip (word_at r h.0)) (called m (get_or bodies r (ter any)) x h.1))

  from-word : (r x : ℕ) → Called calls r x → FirstCalls bodies r x
  from-word r x h =
      let l : r < length bodies = omega (arith, h.0, calls-long) in
      (l, calls-it m (get_or bodies r (ter any)) x (subst (λ (w : ℕ). holds w x ≡ true) (word_at r l) h.1))

  to-words : {r x : ℕ} → LeadsTo (FirstCalls bodies) r x → LeadsTo (Called calls) r x
  to-words {r} {x} (at_once h) = at_once (to_word r x h)
  to-words {r} {x} (and-on {y = y} t h) = and-on (to-words t) (to_word y x h)

  from-words : {r x : ℕ} → LeadsTo (Called calls) r x → LeadsTo (FirstCalls bodies) r x
  from-words {r} {x} (at_once h) = at_once (from-word r x h)
  from-words {r} {x} (and-on {y = y} t h) = and-on (from-words t) (from-word y x h)

  -- what reaches anything has a body
  has_body : {r x : ℕ} → LeadsTo (FirstCalls bodies) r x → r < length bodies
  has_body (at_once h) = h.0
  has_body (and-on t h) = has_body t

  -- a symbol with a body is on a loop exactly if `reach` has it
  pub loops-exact : (r : ℕ) → r < length calls → (holds (reach calls r) r ≡ true) ↔ OnLoop bodies r
  loops-exact r l = (λ h. from-words ((reach-is calls r r l).0 h), λ t. (reach-is calls r r l).1 (to-words t))

  on-loop : {r : ℕ} → OnLoop bodies r → (r < length calls) × (holds (reach calls r) r ≡ true)
  on-loop {r} t = let l : r < length calls = omega (arith, has_body t, calls-long) in (l, (loops-exact r l).1 t)

  smallest-is : (o : Option ℕ) → Found calls (length calls) 0 o → (p : ℕ) → o ≡ some p → SmallestLoop bodies p
  smallest-is none f p e = absurd (some-none p (flip e))
    where
      some-none : (p : ℕ) → some p ≡ none → ⊥
      some-none p q = let z : ◌≡◌ {A = ℕ} 0 1 = cc in omega arith
  smallest-is (some q) f p e =
      subst (SmallestLoop bodies) (some-injective q p e)
      (record {
        loops = (loops-exact q (omega (arith, f.high))).0 f.loops;
        smallest = λ y l t. f.before y (omega arith) l (on-loop t).1;
      })

  one-smallest : (p q : ℕ) → SmallestLoop bodies p → SmallestLoop bodies q → p ≡ q
  one-smallest p q a b =
      let f : p < q → ⊥ = λ l. b.smallest p l a.loops in
      let g : q < p → ⊥ = λ l. a.smallest q l b.loops in
      omega (arith, f, g)

  found_it : (o : Option ℕ) → Found calls (length calls) 0 o → (p : ℕ) → SmallestLoop bodies p → o ≡ some p
  found_it none f p s = let w = on-loop s.loops in absurd (f p (omega arith) (omega (arith, w.0)) w.1)
  found_it (some q) f p s = ap some (one-smallest q p (smallest-is (some q) f q refl) s)

  -- REFUSAL 8: p is found exactly if it is the smallest symbol that reaches itself
  pub loop-exact : (p : ℕ) → (loop bodies ≡ some p) ↔ SmallestLoop bodies p
  unfolding loop
  loop-exact p =
      (λ e. smallest-is (loop_from calls (length calls) 0) (found calls (length calls) 0) p e, λ s. found_it (loop_from calls (length calls) 0) (found calls (length calls) 0) p s)

  -- and nothing is found exactly if there is none
  pub no-loop-exact : (loop bodies ≡ none) ↔ ((y : ℕ) → OnLoop bodies y → ⊥)
  unfolding loop
  no-loop-exact =
      (λ e y t. none-there (loop_from calls (length calls) 0) e (found calls (length calls) 0) y t, λ f. none_found (loop_from calls (length calls) 0) (found calls (length calls) 0) f)
    where
      none-there : (o : Option ℕ) → o ≡ none → Found calls (length calls) 0 o → (y : ℕ) → OnLoop bodies y → ⊥
      none-there none e f y t = let w = on-loop t in f y (omega arith) (omega (arith, w.0)) w.1
      none-there (some q) e f y t = let z : ◌≡◌ {A = ℕ} 0 1 = cc in omega arith

      none_found : (o : Option ℕ) → Found calls (length calls) 0 o → ((y : ℕ) → OnLoop bodies y → ⊥) → o ≡ none
      none_found none f g = refl
      none_found (some q) f g = absurd (g q (smallest-is (some q) f q refl).loops)
