-- Rows 4 and 5 in the table's words: the leftmost token that is a second left side or a reserved name, and the first use of a nonterminal without a rule
-- (01, Refusal numbers). Assumes nothing.
use Prim.Native.Nat.{ℕ, zero, suc, ◌<◌}
use Rattle.std.specs.Prelude.{◌≡◌, Bool, not, ◌&&◌, ◌||◌, List, [], ◌∷◌}
use Rattle.std.proofs.Math.Path.{refl}
use Rattle.std.proofs.Common.{sym, ap, ap₂, ◌∙◌, subst, true≢false, arith}
use Rattle.std.proofs.Math.Bool.{true, false}
use Rattle.std.proofs.Math.Option.{Option, none, some}
use Rattle.base_facts.specs.laws.Bools.{or-holds}
use Rattle.read_tokens.specs.declared.Mode.{Mode}
use Rattle.read_tokens.specs.Token.{Symbol, Tok, Lexeme, name, lake, symbol, leaf, pre, suf, arrow, slash, opens, closes, bad}
use Rattle.grammar.specs.Same.{same_symbol, is_in}
use Rattle.read_grammar.specs.laws.Entries.{symbol-sound, symbol-refl}
use Rattle.read_syntax.specs.Machine.{place_of}
use Rattle.read_syntax.specs.Reading.{before, reserved, second_by, second, left_by, lefts_in, lacks, unruled}
use Rattle.demands.specs.Rows.{Named, here, there, Doubled, is-reserved, is-second, Ruleless, no-rule, FirstToken}

-- ── the first token of which something holds ──
abbrev pub Finds : ℕ → (ℕ → Type 0) → List Lexeme → Option ℕ → Type 0
Finds n P xs none = (i : ℕ) → P i → ⊥
Finds n P xs (some p) = FirstToken P n xs p

module _ (n : ℕ) (P : ℕ → Type 0) where
  one-first : (xs : List Lexeme) (p q : ℕ) → FirstToken P n xs p → FirstToken P n xs q → p ≡ q
  one-first xs p q a b =
      let f : a.number < b.number → ⊥ = λ l. b.leftmost a.number l a.holds in
      let g : b.number < a.number → ⊥ = λ l. a.leftmost b.number l b.holds in
      let e : a.number ≡ b.number = omega (arith, f, g) in
      sym a.place ∙ ap (place_of n xs) e ∙ b.place

  pub finds-so : (xs : List Lexeme) (o : Option ℕ) → Finds n P xs o → (p : ℕ) → o ≡ some p → FirstToken P n xs p
  finds-so xs o f p e = subst (Finds n P xs) e f

  pub finds-it : (xs : List Lexeme) (o : Option ℕ) → Finds n P xs o → (p : ℕ) → FirstToken P n xs p → o ≡ some p
  finds-it xs none f p a = absurd (f a.number a.holds)
  finds-it xs (some q) f p a = ap some (one-first xs q p f a)

  first-here : (x : Lexeme) (l : List Lexeme) → P zero → Finds n P (x ∷ l) (some x.start)
  unfolding place_of
  first-here x l h = record { number = zero; holds = h; leftmost = λ j i r. omega arith; place = refl }

  module _ (Q : ℕ → Type 0) (x : Lexeme) (l : List Lexeme) (not-here : P zero → ⊥) (down : (i : ℕ) → P (suc i) → Q i) (up : (i : ℕ) → Q i → P (suc i)) where
    none-later : ((i : ℕ) → Q i → ⊥) → (i : ℕ) → P i → ⊥
    none-later f zero h = not-here h
    none-later f (suc i) h = f i (down i h)

    left-later : (k : ℕ) → ((j : ℕ) → j < k → Q j → ⊥) → (j : ℕ) → j < suc k → P j → ⊥
    left-later k f zero i h = not-here h
    left-later k f (suc j) i h = f j (omega arith) (down j h)

    first-later : (o : Option ℕ) → Finds n Q l o → Finds n P (x ∷ l) o
    unfolding place_of
    first-later none f = none-later f
    first-later (some p) f = record { number = suc f.number; holds = up f.number f.holds; leftmost = left-later f.number f.leftmost; place = f.place }

-- ── tokens ──
abbrev symbol_in : Tok → Symbol
symbol_in (symbol h) = h
symbol_in (leaf y) = name []
symbol_in (pre y) = name []
symbol_in (suf y) = name []
symbol_in arrow = name []
symbol_in slash = name []
symbol_in opens = name []
symbol_in closes = name []
symbol_in bad = name []

abbrev is_symbol : Tok → Bool
is_symbol (symbol h) = true
is_symbol (leaf y) = false
is_symbol (pre y) = false
is_symbol (suf y) = false
is_symbol arrow = false
is_symbol slash = false
is_symbol opens = false
is_symbol closes = false
is_symbol bad = false

abbrev NotEmpty : List Lexeme → Type 0
NotEmpty [] = ⊥
NotEmpty (x ∷ l) = Unit {0}

some-token : {xs : List Lexeme} {i : ℕ} {h : Symbol} {b : Bool} → Named xs i h b → NotEmpty xs
some-token (here e f) = tt
some-token (there n) = tt

same_in : (h k : Symbol) (hs : List Symbol) → h ≡ k → is_in same_symbol h (k ∷ hs) ≡ true
unfolding is_in
same_in h k hs e = ap (λ (b : Bool). b || is_in same_symbol h hs) (subst (λ (x : Symbol). same_symbol h x ≡ true) e (symbol-refl h))

later-in : (h k : Symbol) (hs : List Symbol) → is_in same_symbol h hs ≡ true → is_in same_symbol h (k ∷ hs) ≡ true
unfolding is_in
later-in h k hs e = or-holds (same_symbol h k) (is_in same_symbol h hs) e

-- ── 4 ──
-- the same, where some left sides came before
data Bad (m : Mode) (seen : List Symbol) (xs : List Lexeme) (i : ℕ) : Type 0 where
  res : {h : Symbol} {b : Bool} → Named xs i h b → reserved m h ≡ true → Bad m seen xs i
  sec : {h : Symbol} {j : ℕ} → Named xs i h true → j < i → Named xs j h true → Bad m seen xs i
  old : {h : Symbol} → Named xs i h true → is_in same_symbol h seen ≡ true → Bad m seen xs i

bad-some : {m : Mode} {seen : List Symbol} {xs : List Lexeme} {i : ℕ} → Bad m seen xs i → NotEmpty xs
bad-some (res t e) = some-token t
bad-some (sec t l u) = some-token t
bad-some (old t e) = some-token t

module _ (n : ℕ) (m : Mode) (x : Lexeme) (l : List Lexeme) where
  -- a token that is no left side
  module _ (seen : List Symbol) (no-left : (h : Symbol) → Named (x ∷ l) zero h true → ⊥) where
    stay-down : (i : ℕ) → Bad m seen (x ∷ l) (suc i) → Bad m seen l i
    stay-down i (res (there t) e) = res t e
    stay-down i (sec {h = h} (there t) k (here e f)) = absurd (no-left h (here e f))
    stay-down i (sec {j = suc j} (there t) k (there u)) = sec {j = j} t (omega arith) u
    stay-down i (old (there t) e) = old t e

    stay-up : (i : ℕ) → Bad m seen l i → Bad m seen (x ∷ l) (suc i)
    stay-up i (res t e) = res (there t) e
    stay-up i (sec {j = j} t k u) = sec {j = suc j} (there t) (omega arith) (there u)
    stay-up i (old t e) = old (there t) e

    stays : (Bad m seen (x ∷ l) zero → ⊥) → (o : Option ℕ) → Finds n (Bad m seen l) l o → Finds n (Bad m seen (x ∷ l)) (x ∷ l) o
    stays f o g = first-later n (Bad m seen (x ∷ l)) (Bad m seen l) x l f stay-down stay-up o g

  -- a left side k
  module _ (seen : List Symbol) (k : Symbol) (is : x.is ≡ symbol k) (left : before l ≡ true) where
    same_name : {h : Symbol} → x.is ≡ symbol h → h ≡ k
    same_name e = ap symbol_in (sym e ∙ is)

    move_down : (i : ℕ) → Bad m seen (x ∷ l) (suc i) → Bad m (k ∷ seen) l i
    move_down i (res (there t) e) = res t e
    move_down i (sec {h = h} (there t) q (here e f)) = old t (same_in h k seen (same_name e))
    move_down i (sec {j = suc j} (there t) q (there u)) = sec {j = j} t (omega arith) u
    move_down i (old {h = h} (there t) e) = old t (later-in h k seen e)

    by_name : (i : ℕ) (h : Symbol) → Named l i h true → (b : Bool) → same_symbol h k ≡ b → (b || is_in same_symbol h seen) ≡ true → Bad m seen (x ∷ l) (suc i)
    by_name i h t true e f = sec {j = zero} (there t) (omega arith) (here (is ∙ ap symbol (sym (symbol-sound h k e))) left)
    by_name i h t false e f = old (there t) f

    move_up : (i : ℕ) → Bad m (k ∷ seen) l i → Bad m seen (x ∷ l) (suc i)
    unfolding is_in
    move_up i (res t e) = res (there t) e
    move_up i (sec {j = j} t q u) = sec {j = suc j} (there t) (omega arith) (there u)
    move_up i (old {h = h} t e) = by_name i h t (same_symbol h k) refl e

    moves : (Bad m seen (x ∷ l) zero → ⊥) → (o : Option ℕ) → Finds n (Bad m (k ∷ seen) l) l o → Finds n (Bad m seen (x ∷ l)) (x ∷ l) o
    moves f o g = first-later n (Bad m seen (x ∷ l)) (Bad m (k ∷ seen) l) x l f move_down move_up o g

  module _ (seen : List Symbol) (rest : (more : List Symbol) → Finds n (Bad m more l) l (second m more l)) where
    -- a token that is no name
    other : is_symbol x.is ≡ false → Finds n (Bad m seen (x ∷ l)) (x ∷ l) (second m seen l)
    other f = stays seen (λ h t. no_name h true t) bad-here (second m seen l) (rest seen)
      where
        no_name : (h : Symbol) (b : Bool) → Named (x ∷ l) zero h b → ⊥
        no_name h b (here e g) = true≢false (sym (ap is_symbol e) ∙ f)

        bad-here : Bad m seen (x ∷ l) zero → ⊥
        bad-here (res {h = h} {b = b} t e) = no_name h b t
        bad-here (sec t q u) = omega arith
        bad-here (old {h = h} t e) = no_name h true t

    module _ (k : Symbol) (is : x.is ≡ symbol k) where
      same-to : {h : Symbol} → x.is ≡ symbol h → h ≡ k
      same-to e = ap symbol_in (sym e ∙ is)

      named : (r c b : Bool) → reserved m k ≡ r → is_in same_symbol k seen ≡ c → before l ≡ b
          → Finds n (Bad m seen (x ∷ l)) (x ∷ l) (elim (r || (b && c)) as (λ _. Option ℕ) [ true ↦ some x.start | false ↦ elim b as (λ _. Option ℕ) [ true ↦ second m (k ∷ seen) l | false ↦ second m seen l ] ])
      named true c b p q f = first-here n (Bad m seen (x ∷ l)) x l (res (here is f) p)
      named false true true p q f = first-here n (Bad m seen (x ∷ l)) x l (old (here is f) q)
      named false false true p q f = moves seen k is f bad-here (second m (k ∷ seen) l) (rest (k ∷ seen))
        where
          bad-here : Bad m seen (x ∷ l) zero → ⊥
          bad-here (res (here e g) z) = true≢false (sym z ∙ ap (reserved m) (same-to e) ∙ p)
          bad-here (sec t i u) = omega arith
          bad-here (old (here e g) z) = true≢false (sym z ∙ ap (λ (h : Symbol). is_in same_symbol h seen) (same-to e) ∙ q)
      named false c false p q f = stays seen (λ h t. no-left h t) bad-here (second m seen l) (rest seen)
        where
          no-left : (h : Symbol) → Named (x ∷ l) zero h true → ⊥
          no-left h (here e g) = true≢false (sym g ∙ f)

          bad-here : Bad m seen (x ∷ l) zero → ⊥
          bad-here (res (here e g) z) = true≢false (sym z ∙ ap (reserved m) (same-to e) ∙ p)
          bad-here (sec t i u) = omega arith
          bad-here (old {h = h} t z) = no-left h t

    by_token : (u : Tok) → x.is ≡ u → Finds n (Bad m seen (x ∷ l)) (x ∷ l) (second_by m seen u x.start (before l) (λ more. second m more l))
    by_token (symbol k) e = named k e (reserved m k) (is_in same_symbol k seen) (before l) refl refl refl
    by_token (leaf y) e = other (ap is_symbol e)
    by_token (pre y) e = other (ap is_symbol e)
    by_token (suf y) e = other (ap is_symbol e)
    by_token arrow e = other (ap is_symbol e)
    by_token slash e = other (ap is_symbol e)
    by_token opens e = other (ap is_symbol e)
    by_token closes e = other (ap is_symbol e)
    by_token bad e = other (ap is_symbol e)

second-finds : (n : ℕ) (m : Mode) (seen : List Symbol) (xs : List Lexeme) → Finds n (Bad m seen xs) xs (second m seen xs)
unfolding second
second-finds n m seen [] = λ i b. bad-some b
second-finds n m seen (x ∷ l) = by_token n m x l seen (λ more. second-finds n m more l) x.is refl

-- nothing came before the first token
plain-bad : {m : Mode} {xs : List Lexeme} {i : ℕ} → Bad m [] xs i → Doubled m xs i
unfolding is_in
plain-bad (res t e) = is-reserved t e
plain-bad (sec t l u) = is-second t l u
plain-bad (old t e) = absurd (true≢false (sym e))

bad-plain : {m : Mode} {xs : List Lexeme} {i : ℕ} → Doubled m xs i → Bad m [] xs i
bad-plain (is-reserved t e) = res t e
bad-plain (is-second t l u) = sec t l u

pub finds-doubled : (n : ℕ) (m : Mode) (xs : List Lexeme) → Finds n (Doubled m xs) xs (second m [] xs)
finds-doubled n m xs = go (second m [] xs) (second-finds n m [] xs)
  where
    go : (o : Option ℕ) → Finds n (Bad m [] xs) xs o → Finds n (Doubled m xs) xs o
    go none f = λ i d. f i (bad-plain d)
    go (some p) f = record { number = f.number; holds = plain-bad f.holds; leftmost = λ j i d. f.leftmost j i (bad-plain d); place = f.place }

-- ── 5 ──
data Lack (lefts : List Symbol) (xs : List Lexeme) (i : ℕ) : Type 0 where
  lack : {w : List ℕ} → Named xs i (name w) false → is_in same_symbol (name w) lefts ≡ false → Lack lefts xs i

lack-some : {lefts : List Symbol} {xs : List Lexeme} {i : ℕ} → Lack lefts xs i → NotEmpty xs
lack-some (lack t e) = some-token t

module _ (n : ℕ) (lefts : List Symbol) (x : Lexeme) (l : List Lexeme) where
  lack-down : (i : ℕ) → Lack lefts (x ∷ l) (suc i) → Lack lefts l i
  lack-down i (lack (there t) e) = lack t e

  lack-up : (i : ℕ) → Lack lefts l i → Lack lefts (x ∷ l) (suc i)
  lack-up i (lack t e) = lack (there t) e

  lacks-here : (w : List ℕ) → x.is ≡ symbol (name w) → (b c : Bool) → before l ≡ b → is_in same_symbol (name w) lefts ≡ c → (not b && not c) ≡ true → Lack lefts (x ∷ l) zero
  lacks-here w e false false f g h = lack (here e f) g
  lacks-here w e false true f g h = absurd (true≢false (sym h))
  lacks-here w e true c f g h = absurd (true≢false (sym h))

  here-lacks : (u : Tok) → x.is ≡ u → Lack lefts (x ∷ l) zero → lacks lefts u (before l) ≡ true
  here-lacks u p (lack (here e f) g) = ap (λ (v : Tok). lacks lefts v (before l)) (sym p ∙ e) ∙ ap₂ (λ (b c : Bool). not b && not c) f g

  is-lack : (u : Tok) → x.is ≡ u → lacks lefts u (before l) ≡ true → Lack lefts (x ∷ l) zero
  is-lack (symbol (name w)) e h = lacks-here w e (before l) (is_in same_symbol (name w) lefts) refl refl h
  is-lack (symbol (lake w)) e h = absurd (true≢false (sym h))
  is-lack (leaf y) e h = absurd (true≢false (sym h))
  is-lack (pre y) e h = absurd (true≢false (sym h))
  is-lack (suf y) e h = absurd (true≢false (sym h))
  is-lack arrow e h = absurd (true≢false (sym h))
  is-lack slash e h = absurd (true≢false (sym h))
  is-lack opens e h = absurd (true≢false (sym h))
  is-lack closes e h = absurd (true≢false (sym h))
  is-lack bad e h = absurd (true≢false (sym h))

  by-lack : (b : Bool) → lacks lefts x.is (before l) ≡ b → (o : Option ℕ) → Finds n (Lack lefts l) l o → Finds n (Lack lefts (x ∷ l)) (x ∷ l) (elim b as (λ _. Option ℕ) [ true ↦ some x.start | false ↦ o ])
  by-lack true e o f = first-here n (Lack lefts (x ∷ l)) x l (is-lack x.is refl e)
  by-lack false e o f = first-later n (Lack lefts (x ∷ l)) (Lack lefts l) x l (λ h. true≢false (sym (here-lacks x.is refl h) ∙ e)) lack-down lack-up o f

unruled-finds : (n : ℕ) (lefts : List Symbol) (xs : List Lexeme) → Finds n (Lack lefts xs) xs (unruled lefts xs)
unfolding unruled
unruled-finds n lefts [] = λ i h. lack-some h
unruled-finds n lefts (x ∷ l) = by-lack n lefts x l (lacks lefts x.is (before l)) refl (unruled lefts l) (unruled-finds n lefts l)

-- the left sides of the text
left-more : (h : Symbol) (u : Tok) (b : Bool) (hs : List Symbol) → is_in same_symbol h hs ≡ true → is_in same_symbol h (left_by u b hs) ≡ true
left-more h (symbol k) true hs e = later-in h k hs e
left-more h (symbol k) false hs e = e
left-more h (leaf y) b hs e = e
left-more h (pre y) b hs e = e
left-more h (suf y) b hs e = e
left-more h arrow b hs e = e
left-more h slash b hs e = e
left-more h opens b hs e = e
left-more h closes b hs e = e
left-more h bad b hs e = e

in-lefts : {xs : List Lexeme} {i : ℕ} {h : Symbol} → Named xs i h true → is_in same_symbol h (lefts_in xs) ≡ true
unfolding lefts_in
in-lefts (here {l = l} {h = h} e f) = ap₂ (λ (u : Tok) (b : Bool). is_in same_symbol h (left_by u b (lefts_in l))) e f ∙ same_in h h (lefts_in l) refl
in-lefts (there {x = x} {l = l} {h = h} t) = left-more h x.is (before l) (lefts_in l) (in-lefts t)

abbrev LeftIn : List Lexeme → Symbol → Type 0
LeftIn xs h = (j : ℕ) × Named xs j h true

module _ (h : Symbol) (x : Lexeme) (l : List Lexeme) (rest : is_in same_symbol h (lefts_in l) ≡ true → LeftIn l h) where
  after : is_in same_symbol h (lefts_in l) ≡ true → LeftIn (x ∷ l) h
  after e = let w = rest e in (suc w.0, there w.1)

  by-same : (k : Symbol) → x.is ≡ symbol k → before l ≡ true → (b : Bool) → same_symbol h k ≡ b → (b || is_in same_symbol h (lefts_in l)) ≡ true → LeftIn (x ∷ l) h
  by-same k e f true g z = (zero, here (e ∙ ap symbol (sym (symbol-sound h k g))) f)
  by-same k e f false g z = after z

  by_left : (u : Tok) → x.is ≡ u → (b : Bool) → before l ≡ b → is_in same_symbol h (left_by u b (lefts_in l)) ≡ true → LeftIn (x ∷ l) h
  unfolding is_in
  by_left (symbol k) e true f z = by-same k e f (same_symbol h k) refl z
  by_left (symbol k) e false f z = after z
  by_left (leaf y) e b f z = after z
  by_left (pre y) e b f z = after z
  by_left (suf y) e b f z = after z
  by_left arrow e b f z = after z
  by_left slash e b f z = after z
  by_left opens e b f z = after z
  by_left closes e b f z = after z
  by_left bad e b f z = after z

lefts_in_lem : (h : Symbol) (xs : List Lexeme) → is_in same_symbol h (lefts_in xs) ≡ true → LeftIn xs h
unfolding lefts_in is_in
lefts_in_lem h [] e = absurd (true≢false (sym e))
lefts_in_lem h (x ∷ l) e = by_left h x l (λ z. lefts_in_lem h l z) x.is refl (before l) refl e

ruleless : {xs : List Lexeme} {i : ℕ} → Lack (lefts_in xs) xs i → Ruleless xs i
ruleless (lack t e) = no-rule t (λ j u. true≢false (sym (in-lefts u) ∙ e))

lacking : {xs : List Lexeme} {i : ℕ} → Ruleless xs i → Lack (lefts_in xs) xs i
lacking {xs} (no-rule {w = w} t f) = lack t (go (is_in same_symbol (name w) (lefts_in xs)) refl)
  where
    go : (b : Bool) → is_in same_symbol (name w) (lefts_in xs) ≡ b → is_in same_symbol (name w) (lefts_in xs) ≡ false
    go true e = let z = lefts_in_lem (name w) xs e in absurd (f z.0 z.1)
    go false e = e

pub finds-ruleless : (n : ℕ) (xs : List Lexeme) → Finds n (Ruleless xs) xs (unruled (lefts_in xs) xs)
finds-ruleless n xs = go (unruled (lefts_in xs) xs) (unruled-finds n (lefts_in xs) xs)
  where
    go : (o : Option ℕ) → Finds n (Lack (lefts_in xs) xs) xs o → Finds n (Ruleless xs) xs o
    go none f = λ i d. f i (lacking d)
    go (some p) f = record { number = f.number; holds = ruleless f.holds; leftmost = λ j i d. f.leftmost j i (lacking d); place = f.place }
