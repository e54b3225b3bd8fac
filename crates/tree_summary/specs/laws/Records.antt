-- What a symbol's record says of its nodes: zeros and absent exactly if it has none; its first and its last node are the first and the last of the symbol;
-- the bytes it counts are those that lie in a node of it. Assumes nothing.
use Rattle.std.specs.Prelude.{ℕ, zero, suc, ◌+◌, ◌≤◌, ◌<◌, ◌≡◌, refl, Bool, true, false, cond, ◌&&◌, ◌||◌, ◌↔◌, List, [], ◌∷◌, leb, ltb, length, get_or}
use Rattle.std.proofs.Common.{ap, subst, ◌∙◌, sym as flip, true≢false, arith, le-leb, leb-true, lt-ltb, ltb-true, eq-eqb, eqb-true}
use Rattle.std.proofs.lemmas.Bool.{false≢true, eqb-false}
use Rattle.base_facts.specs.laws.Bools.{and_parts, and_both, or-holds}
use Rattle.match_meaning.specs.Meaning.{Node, nd}
use Rattle.tree_summary.specs.Summary.{is_of, any_of, count_of, lies_in, covered_of, first_of, last_of, summary_of, absent}

-- node k of a list
abbrev pub at_number : List Node → ℕ → Node
at_number xs k = get_or xs k (nd 0 0 0 0)

-- ── a node that passes a test ──
unfoldable any_node : (Node → Bool) → List Node → Bool
any_node f [] = false
any_node f (x ∷ xs) = f x || any_node f xs

record Passing (f : Node → Bool) (xs : List Node) : Type 0 where
  number : ℕ
  within : number < length xs
  passes : f (at_number xs number) ≡ true

passing-by : (f : Node → Bool) (x : Node) (xs : List Node) (b : Bool) → f x ≡ b → (b || any_node f xs) ≡ true → (any_node f xs ≡ true → Passing f xs)
    → Passing f (x ∷ xs)
passing-by f x xs true e h go = record { number = 0; within = omega arith; passes = e }
passing-by f x xs false e h go =
    let y : Passing f xs = go h in
    record { number = suc y.number; within = omega (arith, y.within); passes = y.passes }

passing : (f : Node → Bool) (xs : List Node) → any_node f xs ≡ true → Passing f xs
unfolding any_node
passing f [] h = absurd (false≢true h)
passing f (x ∷ xs) h = passing-by f x xs (f x) refl h (λ e. passing f xs e)

one_passes : (f : Node → Bool) (xs : List Node) (k : ℕ) → k < length xs → f (at_number xs k) ≡ true → any_node f xs ≡ true
unfolding any_node
one_passes f [] k h e = absurd (omega (arith, h))
one_passes f (x ∷ xs) zero h e = rw e
one_passes f (x ∷ xs) (suc k) h e = or-holds (f x) (any_node f xs) (one_passes f xs k (omega (arith, h)) e)

-- ── a symbol is present exactly if a node has it ──
pub record Occurs (r : ℕ) (xs : List Node) : Type 0 where
  pub number : ℕ
  pub within : number < length xs
  pub named : (at_number xs number).symbol ≡ r

any-by : (b : Bool) (c : ℕ) → any_of (cond b (suc c) c) ≡ (b || any_of c)
any-by true c = refl
any-by false c = refl

any-of : (r : ℕ) (xs : List Node) → any_of (count_of r xs) ≡ any_node (is_of r) xs
unfolding count_of any_node
any-of r [] = refl
any-of r (x ∷ xs) = any-by (is_of r x) (count_of r xs) ∙ ap (λ (b : Bool). is_of r x || b) (any-of r xs)

counted-occurs : (r : ℕ) (xs : List Node) → any_of (count_of r xs) ≡ true → Occurs r xs
counted-occurs r xs e =
    let y : Passing (is_of r) xs = passing (is_of r) xs (flip (any-of r xs) ∙ e) in
    record { number = y.number; within = y.within; named = eqb-true (at_number xs y.number).symbol r y.passes }

occurs-counted : (r : ℕ) (xs : List Node) → Occurs r xs → any_of (count_of r xs) ≡ true
occurs-counted r xs o = any-of r xs ∙ one_passes (is_of r) xs o.number o.within (eq-eqb (at_number xs o.number).symbol r o.named)

pub present-exactly : (n : ℕ) (xs : List Node) (r : ℕ) → ((summary_of n xs r).present ≡ true) ↔ Occurs r xs
unfolding summary_of
present-exactly n xs r = (λ e. counted-occurs r xs e, λ o. occurs-counted r xs o)

-- ── a byte is counted exactly if it lies in a node of the symbol ──
pub record Covers (r : ℕ) (xs : List Node) (p : ℕ) : Type 0 where
  pub number : ℕ
  pub within : number < length xs
  pub named : (at_number xs number).symbol ≡ r
  pub behind : (at_number xs number).start ≤ p
  pub before : p < (at_number xs number).end

abbrev holds : ℕ → ℕ → Node → Bool
holds r p x = is_of r x && (leb x.start p && ltb p x.end)

lies-any : (r : ℕ) (xs : List Node) (p : ℕ) → lies_in r xs p ≡ any_node (holds r p) xs
unfolding lies_in any_node
lies-any r [] p = refl
lies-any r (x ∷ xs) p = ap (λ (b : Bool). holds r p x || b) (lies-any r xs p)

lies-covers : (r : ℕ) (xs : List Node) (p : ℕ) → lies_in r xs p ≡ true → Covers r xs p
lies-covers r xs p e =
    let y : Passing (holds r p) xs = passing (holds r p) xs (flip (lies-any r xs p) ∙ e) in
    let x : Node = at_number xs y.number in
    let a : (is_of r x ≡ true) × (_ ≡ true) = and_parts (is_of r x) _ y.passes in
    let b : (leb x.start p ≡ true) × (ltb p x.end ≡ true) = and_parts (leb x.start p) _ a.1 in
    record {
      number = y.number;
      within = y.within;
      named = eqb-true x.symbol r a.0;
      behind = leb-true x.start p b.0;
      before = ltb-true p x.end b.1;
    }

covers-lies : (r : ℕ) (xs : List Node) (p : ℕ) → Covers r xs p → lies_in r xs p ≡ true
covers-lies r xs p c =
    let x : Node = at_number xs c.number in
    lies-any r xs p
    ∙ one_passes (holds r p) xs c.number c.within
    (and_both (is_of r x) _ (eq-eqb x.symbol r c.named) (and_both (leb x.start p) _ (le-leb x.start p c.behind) (lt-ltb p x.end c.before)))

pub covered-byte : (r : ℕ) (xs : List Node) (p : ℕ) → (lies_in r xs p ≡ true) ↔ Covers r xs p
covered-byte r xs p = (λ e. lies-covers r xs p e, λ c. covers-lies r xs p c)

-- of n bytes at most n
most-by : (b : Bool) (c n : ℕ) → c ≤ n → cond b (suc c) c ≤ suc n
most-by true c n h = omega (arith, h)
most-by false c n h = omega (arith, h)

pub covered-most : (n r : ℕ) (xs : List Node) → covered_of n r xs ≤ n
unfolding covered_of
covered-most zero r xs = omega arith
covered-most (suc n) r xs = most-by (lies_in r xs n) (covered_of n r xs) n (covered-most n r xs)

-- ── "Symbols without a node have a record of zeros, marked absent" (02, par. 2) ──
none-by : (r : ℕ) (x : Node) (b : Bool) (c : ℕ) → is_of r x ≡ b → cond b (suc c) c ≡ 0 → (is_of r x ≡ false) × (c ≡ 0)
none-by r x true c e h = absurd (omega (arith, h))
none-by r x false c e h = (e, h)

none_here : (r : ℕ) (x : Node) (xs : List Node) → count_of r (x ∷ xs) ≡ 0 → (is_of r x ≡ false) × (count_of r xs ≡ 0)
unfolding count_of
none_here r x xs h = none-by r x (is_of r x) (count_of r xs) refl h

none_first : (r k : ℕ) (xs : List Node) → count_of r xs ≡ 0 → first_of r k xs ≡ 0
unfolding first_of
none_first r k [] h = refl
none_first r k (x ∷ xs) h =
    let a : (is_of r x ≡ false) × (count_of r xs ≡ 0) = none_here r x xs h in
    rw a.0 (none_first r (suc k) xs a.1)

none_last : (r k : ℕ) (xs : List Node) → count_of r xs ≡ 0 → last_of r k xs ≡ 0
unfolding last_of
none_last r k [] h = refl
none_last r k (x ∷ xs) h =
    let a : (is_of r x ≡ false) × (count_of r xs ≡ 0) = none_here r x xs h in
    rw (a.0, a.1)

none-lies : (r : ℕ) (xs : List Node) (p : ℕ) → count_of r xs ≡ 0 → lies_in r xs p ≡ false
unfolding lies_in
none-lies r [] p h = refl
none-lies r (x ∷ xs) p h =
    let a : (is_of r x ≡ false) × (count_of r xs ≡ 0) = none_here r x xs h in
    rw a.0 (none-lies r xs p a.1)

none-covered : (n r : ℕ) (xs : List Node) → count_of r xs ≡ 0 → covered_of n r xs ≡ 0
unfolding covered_of
none-covered zero r xs h = refl
none-covered (suc n) r xs h = rw (none-lies r xs n h) (none-covered n r xs h)

pub absent-zero : (n : ℕ) (xs : List Node) (r : ℕ) → count_of r xs ≡ 0 → summary_of n xs r ≡ absent
unfolding summary_of
absent-zero n xs r h = rw (none-covered n r xs h, none_first r 0 xs h, none_last r 0 xs h, h)

-- ── "the numbers of its first and last node" (02, par. 2) ──
pub record StandsFirst (r : ℕ) (xs : List Node) (k : ℕ) : Type 0 where
  pub within : k < length xs
  pub named : (at_number xs k).symbol ≡ r
  pub none_before : (j : ℕ) → j < k → (at_number xs j).symbol ≡ r → ⊥

pub record StandsLast (r : ℕ) (xs : List Node) (k : ℕ) : Type 0 where
  pub within : k < length xs
  pub named : (at_number xs k).symbol ≡ r
  pub none-behind : (j : ℕ) → k < j → j < length xs → (at_number xs j).symbol ≡ r → ⊥

module _ (r : ℕ) (x : Node) (xs : List Node) where
  -- the head is the first, or that of the tail is
  first-here : x.symbol ≡ r → StandsFirst r (x ∷ xs) 0
  first-here e = record { within = omega arith; named = e; none_before = λ j h q. omega (arith, h) }

  first-later : (j : ℕ) → (x.symbol ≡ r → ⊥) → StandsFirst r xs j → StandsFirst r (x ∷ xs) (suc j)
  first-later j f s = record { within = omega (arith, s.within); named = s.named; none_before = none }
    where
      none : (i : ℕ) → i < suc j → (at_number (x ∷ xs) i).symbol ≡ r → ⊥
      none zero h e = f e
      none (suc i) h e = s.none_before i (omega (arith, h)) e

  -- the last of the tail is the last, or the head is, the tail having none
  last-later : (j : ℕ) → StandsLast r xs j → StandsLast r (x ∷ xs) (suc j)
  last-later j s = record { within = omega (arith, s.within); named = s.named; none-behind = none }
    where
      none : (i : ℕ) → suc j < i → i < suc (length xs) → (at_number (x ∷ xs) i).symbol ≡ r → ⊥
      none zero h l e = omega (arith, h)
      none (suc i) h l e = s.none-behind i (omega (arith, h)) (omega (arith, l)) e

  last-here : x.symbol ≡ r → any_of (count_of r xs) ≡ false → StandsLast r (x ∷ xs) 0
  last-here q f = record { within = omega arith; named = q; none-behind = none }
    where
      none : (i : ℕ) → 0 < i → i < suc (length xs) → (at_number (x ∷ xs) i).symbol ≡ r → ⊥
      none zero h l e = omega (arith, h)
      none (suc i) h l e = true≢false (flip (occurs-counted r xs (record { number = i; within = omega (arith, l); named = e })) ∙ f)

-- the list's first being node k, its first node of the symbol is node k + place
record FirstFrom (r k : ℕ) (xs : List Node) : Type 0 where
  place : ℕ
  told : first_of r k xs ≡ k + place
  stands : StandsFirst r xs place

record LastFrom (r k : ℕ) (xs : List Node) : Type 0 where
  place : ℕ
  told : last_of r k xs ≡ k + place
  stands : StandsLast r xs place

first_by : (r k : ℕ) (x : Node) (xs : List Node) (b : Bool) → is_of r x ≡ b → any_of (cond b (suc (count_of r xs)) (count_of r xs)) ≡ true
    → (any_of (count_of r xs) ≡ true → FirstFrom r (suc k) xs) → FirstFrom r k (x ∷ xs)
unfolding first_of
first_by r k x xs true e h go =
    record { place = 0; told = rw e (omega arith); stands = first-here r x xs (eqb-true x.symbol r e) }
first_by r k x xs false e h go =
    let y : FirstFrom r (suc k) xs = go h in
    record {
      place = suc y.place;
      told = rw e (omega (arith, y.told));
      stands = first-later r x xs y.place (eqb-false x.symbol r e) y.stands;
    }

first-from : (r k : ℕ) (xs : List Node) → any_of (count_of r xs) ≡ true → FirstFrom r k xs
unfolding count_of
first-from r k [] h = absurd (false≢true h)
first-from r k (x ∷ xs) h = first_by r k x xs (is_of r x) refl h (λ e. first-from r (suc k) xs e)

alone-by : (b : Bool) (c : ℕ) → any_of (cond b (suc c) c) ≡ true → any_of c ≡ false → b ≡ true
alone-by true c h f = refl
alone-by false c h f = absurd (true≢false (flip h ∙ f))

last-by : (r k : ℕ) (x : Node) (xs : List Node) (b : Bool) → any_of (count_of r xs) ≡ b → any_of (cond (is_of r x) (suc (count_of r xs)) (count_of r xs)) ≡ true
    → (any_of (count_of r xs) ≡ true → LastFrom r (suc k) xs) → LastFrom r k (x ∷ xs)
unfolding last_of
last-by r k x xs true e h go =
    let y : LastFrom r (suc k) xs = go e in
    record { place = suc y.place; told = rw e (omega (arith, y.told)); stands = last-later r x xs y.place y.stands }
last-by r k x xs false e h go =
    let q : is_of r x ≡ true = alone-by (is_of r x) (count_of r xs) h e in
    record { place = 0; told = rw (e, q) (omega arith); stands = last-here r x xs (eqb-true x.symbol r q) e }

last-from : (r k : ℕ) (xs : List Node) → any_of (count_of r xs) ≡ true → LastFrom r k xs
unfolding count_of
last-from r k [] h = absurd (false≢true h)
last-from r k (x ∷ xs) h = last-by r k x xs (any_of (count_of r xs)) refl h (λ e. last-from r (suc k) xs e)

pub first-exact : (r : ℕ) (xs : List Node) → Occurs r xs → StandsFirst r xs (first_of r 0 xs)
first-exact r xs o =
    let y : FirstFrom r 0 xs = first-from r 0 xs (occurs-counted r xs o) in
    subst (StandsFirst r xs) (omega (arith, y.told)) y.stands

pub last-exact : (r : ℕ) (xs : List Node) → Occurs r xs → StandsLast r xs (last_of r 0 xs)
last-exact r xs o =
    let y : LastFrom r 0 xs = last-from r 0 xs (occurs-counted r xs o) in
    subst (StandsLast r xs) (omega (arith, y.told)) y.stands
